-- What holds of each graph beside its traces: the blocks that it names are there, and an exit has a block of its own.
use Rattle.std.specs.Prelude.{◌≡◌, ℕ, ◌<◌, true, List, [], ◌∷◌, length}
use Rattle.path_theory.specs.Marks.{EventMark}
use Rattle.flow_graph.specs.CPaths.Events.{Event}
use Rattle.flow_graph.specs.CPaths.Exits.{is_exit, NoExits}
use Rattle.flow_graph.specs.CPaths.Graphs.{Block, Ending, ToAny, Calls, Stops}

abbrev pub AllBelow : ℕ → List ℕ → Type 0
AllBelow n [] = Unit {0}
AllBelow n (b ∷ bs) = (b < n) × AllBelow n bs

-- a block that ends the function has an exit alone, no other has one, and the blocks that it leads to are below n
abbrev pub IsSoundEnd : ℕ → List Event → Ending → Type 0
IsSoundEnd n es (ToAny bs) = NoExits es × AllBelow n bs
IsSoundEnd n es (Calls site b) = NoExits es × (b < n)
IsSoundEnd n es Stops = (e : Event) × (is_exit (EventMark e) ≡ true) × (es ≡ e ∷ [])

abbrev pub AreSound : ℕ → List Block → Type 0
AreSound n [] = Unit {0}
AreSound n (s ∷ ss) = IsSoundEnd n s.events s.ending × AreSound n ss

abbrev pub IsSoundGraph : List Block → ℕ → Type 0
IsSoundGraph g entry = AreSound (length g) g × (entry < length g)
