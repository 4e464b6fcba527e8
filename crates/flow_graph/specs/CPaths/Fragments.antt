-- What the blocks of an expression are, by its form: built from the end, each with one event at most.
-- H is any set of known blocks: H b events ending says that the block b has these events and this end.
use Rattle.std.specs.Prelude.{◌≡◌, ℕ, true, false, List, [], ◌∷◌, Some, slice_get}
use Rattle.c_tree.specs.Node.{Node}
use Rattle.path_theory.specs.Marks.{EventMark, CallMark}
use Rattle.flow_graph.specs.CPaths.Events.{Event, Item, Branched}
use Rattle.flow_graph.specs.CPaths.Forms.{Form, Plain, Inverts, Keeps, Both, Any, Chooses, Follows, Row, done, operand, item}
use Rattle.flow_graph.specs.CPaths.Graphs.{Block, Ending, ToAny, Calls}

-- where an expression leads: to one block with its value, or as a condition to one block where it holds and to another
-- where it fails
pub data Way : Type 0 where
  To : (next : ℕ) → Way
  ToEither : (holds fails : ℕ) → Way

-- the block b of the graph has these events and this end
abbrev pub Has : List Block → ℕ → List Event → Ending → Type 0
Has g b es end = slice_get g b ≡ Some (record { events = es; ending = end })

-- v is where an expression leads once it has its value: as a condition a branch lies between
abbrev pub Split : (ℕ → List Event → Ending → Type 0) → Node → Way → ℕ → Type 0
Split H n (To x) v = v ≡ x
Split H n (ToEither y z) v = (t f : ℕ) × H t (Branched n true ∷ []) (ToAny (y ∷ [])) × H f (Branched n false ∷ []) (ToAny (z ∷ [])) × H v [] (ToAny (t ∷ f ∷ []))

-- the block b has this item alone, and leads to v
abbrev pub ItemAt : (ℕ → List Event → Ending → Type 0) → Item → ℕ → ℕ → Type 0
ItemAt H (EventMark e) v b = H b (e ∷ []) (ToAny (v ∷ []))
ItemAt H (CallMark site) v b = H b [] (Calls site v)

abbrev mutual
  -- the blocks of the expression begin at b and lead on this way
  pub Fits : (ℕ → List Event → Ending → Type 0) → Form → Way → ℕ → Type 0
  Fits H (Plain n r) way b = (v : ℕ) × Split H n way v × FitsRow H r v b
  Fits H (Inverts x r) (To v) b = (c : ℕ) × FitsRow H r v c × Fits H x (To c) b
  Fits H (Inverts x r) (ToEither y z) b = Fits H x (ToEither z y) b
  Fits H (Keeps x r) (To v) b = (c : ℕ) × FitsRow H r v c × Fits H x (To c) b
  Fits H (Keeps x r) (ToEither y z) b = Fits H x (ToEither y z) b
  Fits H (Both x y r) (To v) b = (c d : ℕ) × FitsRow H r v c × Fits H y (ToEither c c) d × Fits H x (ToEither d c) b
  Fits H (Both x y r) (ToEither t f) b = (d : ℕ) × Fits H y (ToEither t f) d × Fits H x (ToEither d f) b
  Fits H (Any x y r) (To v) b = (c d : ℕ) × FitsRow H r v c × Fits H y (ToEither c c) d × Fits H x (ToEither c d) b
  Fits H (Any x y r) (ToEither t f) b = (d : ℕ) × Fits H y (ToEither t f) d × Fits H x (ToEither t d) b
  Fits H (Chooses x y z r) (To v) b = (c d e : ℕ) × FitsRow H r v c × Fits H y (To c) d × Fits H z (To c) e × Fits H x (ToEither d e) b
  Fits H (Chooses x y z r) (ToEither t f) b = (d e : ℕ) × Fits H y (ToEither t f) d × Fits H z (ToEither t f) e × Fits H x (ToEither d e) b
  Fits H (Follows x y r) (To v) b = (c d : ℕ) × FitsRow H r v c × Fits H y (To c) d × Fits H x (To d) b
  Fits H (Follows x y r) (ToEither t f) b = (d : ℕ) × Fits H y (ToEither t f) d × Fits H x (To d) b

  -- the blocks of the row begin at b and lead on to v
  pub FitsRow : (ℕ → List Event → Ending → Type 0) → Row → ℕ → ℕ → Type 0
  FitsRow H done v b = b ≡ v
  FitsRow H (operand x r) v b = (c : ℕ) × FitsRow H r v c × Fits H x (To c) b
  FitsRow H (item i r) v b = (c : ℕ) × FitsRow H r v c × ItemAt H i c b
