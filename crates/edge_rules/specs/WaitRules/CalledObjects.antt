-- WHICH OBJECTS ARE FOLLOWED in the function into which the call at the end of a block is followed.
use Rattle.std.specs.Prelude.{◌≡◌, ℕ, List}
use Rattle.block_flows.specs.FollowedLists.{is_followed}
use Rattle.block_flows.specs.TupleFlows.Facts.{is_in}
use Rattle.c_objects.specs.Objects.{Object}
use Rattle.function_tables.specs.declared.engine_tables.tables.Tables.{Tables}
use Rattle.function_tables.specs.EngineTables.Known.{checker_in, texts_in, graphs_in, objects_in}
use Rattle.path_edges.specs.Edges.{callee_at}

-- they are those of this list; where it is followed into none, they are those of the function itself
abbrev pub AreOfCallee : Tables → ℕ → ℕ → List Object → Type 0
AreOfCallee t function block objects =
    (o : Object) → is_followed (texts_in t) (objects_in t) (callee_at (checker_in t) (texts_in t) (graphs_in t) function block) o ≡ is_in objects o
