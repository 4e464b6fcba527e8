-- What stays where blocks are joined, and where one graph stands in place of another.
use Rattle.std.specs.Prelude.{◌≡◌, ◌≢◌, ◌↔◌, ℕ, List, [], ◌∷◌, length}
use Rattle.flow_graph.specs.CPaths.Building.{Graph}
use Rattle.flow_graph.specs.CPaths.Events.{Event, Item}
use Rattle.flow_graph.specs.CPaths.Graphs.{Block, Ending, ToAny, Stops, GraphTrace}
use Rattle.flow_graph.specs.CPaths.Fragments.{Has}
use Rattle.flow_graph.specs.CPaths.Occurrences.{InGraph}
use Rattle.flow_graph.specs.CPaths.SoundGraphs.{IsSoundGraph}

-- the new blocks have the traces of the old ones, and nothing new stands in them
pub record IsJoined (old new : List Block) : Type 0 where
  pub same_length : length new ≡ length old
  pub traces : (entry : ℕ) (l : List Item) → GraphTrace old entry l ↔ GraphTrace new entry l
  pub sound : (entry : ℕ) → IsSoundGraph old entry → IsSoundGraph new entry
  pub text : (i : Item) → InGraph i new → InGraph i old

-- the block b leads to the block c alone, and that doesn't stop
pub record IsNext (g : List Block) (b c : ℕ) : Type 0 where
  pub events : List Event
  pub others : List Event
  pub ending : Ending
  pub leads : Has g b events (ToAny (c ∷ []))
  pub there : Has g c others ending
  pub goes_on : ending ≢ Stops

-- the new graph has the traces of the old one, and nothing new stands in it
pub record Replaces (old new : Graph) : Type 0 where
  pub traces : (l : List Item) → GraphTrace old.blocks old.entry l ↔ GraphTrace new.blocks new.entry l
  pub sound : IsSoundGraph old.blocks old.entry → IsSoundGraph new.blocks new.entry
  pub text : (i : Item) → InGraph i new.blocks → InGraph i old.blocks
