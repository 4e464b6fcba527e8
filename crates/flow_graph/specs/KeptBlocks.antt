-- The blocks that are kept of a graph, under new numbers: their places in a list of them.
use Rattle.std.specs.Prelude.{◌≡◌, ◌<◌, ℕ, List, [], Option, None, Some, slice_get}
use Rattle.flow_graph.specs.CPaths.Graphs.{Block, ToAny}
use Rattle.flow_graph.specs.CPaths.Forwarders.{redirected}
use Rattle.flow_graph.specs.Targets.{target_of}

-- Of the first n of the list, each that is below the count has the number of a place where it stands.
abbrev pub HaveNumbers : ℕ → List ℕ → ℕ → List ℕ → Type 0
HaveNumbers n kept count numbers = (i b : ℕ) → i < n → b < count → slice_get kept i ≡ Some b → slice_get kept (target_of numbers b) ≡ Some b

-- nothing happens in it, and it leads nowhere
abbrev pub nowhere : Block
nowhere = record { events = []; ending = ToAny [] }

-- a number that no block has gives what a block gives that leads nowhere
abbrev pub there : Option Block → Block
there None = nowhere
there (Some s) = s

-- the block of this number, whose end leads to new numbers
abbrev pub renumbered : (ℕ → ℕ) → List Block → ℕ → Block
renumbered f g b = redirected f (there (slice_get g b))
