-- HOW BLOCKS END: the calls at their ends.
use Rattle.std.specs.Prelude.{ℕ, slice_get, Option, None, Some}
use Rattle.flow_graph.specs.CPaths.Building.{Graph}
use Rattle.flow_graph.specs.CPaths.Graphs.{Ending, ToAny, Calls, Stops}
use Rattle.c_tree.specs.Node.{Node}
use Rattle.type_rules.specs.Options.{◌>?◌}

-- the call in which a block ends, if it does in one
abbrev pub call_in : Ending → Option Node
call_in (Calls n next) = Some n
call_in (ToAny bs) = None
call_in Stops = None

-- the same of the block with a number; none where that isn't there
abbrev pub call_at : Graph → ℕ → Option Node
call_at g b = slice_get g.blocks b >? λ s. call_in s.ending
