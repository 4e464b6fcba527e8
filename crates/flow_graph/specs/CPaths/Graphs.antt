-- Flow graphs: basic blocks by number, and the traces of a graph.
use Rattle.std.specs.Prelude.{◌≡◌, ◌⊎◌, ℕ, suc, zero, List, [], ◌∷◌, ◌++◌, map, Option, Some, None, slice_get}
use Rattle.c_tree.specs.Node.{Node}
use Rattle.path_theory.specs.Marks.{EventMark, CallMark}
use Rattle.flow_graph.specs.CPaths.Membership.{Among}
use Rattle.flow_graph.specs.CPaths.Events.{Event, Item}

-- how a block ends
pub data Ending : Type 0 where
  -- it goes on in any of these blocks
  ToAny : (targets : List ℕ) → Ending
  -- it calls a function that has a body, and goes on in this block
  Calls : (site : Node) (next : ℕ) → Ending
  -- the function ends
  Stops : Ending

pub record Block : Type 0 where
  pub events : List Event
  pub ending : Ending

abbrev pub marks_of : List Event → List Item
marks_of es = map (λ e. EventMark e) es

-- what follows a block's events, given what follows a block
abbrev pub Leaves : (ℕ → List Item → Type 0) → Ending → List Item → Type 0
Leaves after (ToAny bs) l = (l ≡ []) ⊎ ((b : ℕ) × Among b bs × after b l)
Leaves after (Calls site b) l = (l ≡ []) ⊎ ((r : List Item) × after b r × (l ≡ CallMark site ∷ r))
Leaves after Stops l = l ≡ []

-- what follows the head of a block, if it is there
abbrev pub AtBlock : (ℕ → List Item → Type 0) → Option Block → List Item → Type 0
AtBlock after None l = l ≡ []
AtBlock after (Some s) l = (l ≡ []) ⊎ ((r : List Item) × Leaves after s.ending r × (l ≡ marks_of s.events ++ r))

-- what a walk through at most n blocks gives
abbrev pub Walks : List Block → ℕ → ℕ → List Item → Type 0
Walks g zero b l = l ≡ []
Walks g (suc n) b l = AtBlock (Walks g n) (slice_get g b) l

-- what some walk from a block gives, and each beginning of that
abbrev pub GraphTrace : List Block → ℕ → List Item → Type 0
GraphTrace g b l = (n : ℕ) × (rest : List Item) × Walks g n b (l ++ rest)
