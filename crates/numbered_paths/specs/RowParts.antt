-- A ROW STANDS FOR AN EVENT, part by part: by what its move touches, by the states to which its choices lead, and by what it notes.
use Rattle.std.specs.Prelude.{◌≡◌, ◌↔◌, ◌⊎◌, ℕ, Bool, List, Contains, Option, None, Some}
use Rattle.least_set.specs.Logs.{SomeGives}
use Rattle.path_theory.specs.Facts.{Objects}
use Rattle.path_theory.specs.FlowGraphs.{FlowGraphs}
use Rattle.path_theory.specs.Model.{Model}
use Rattle.path_theory.specs.Origins.{Origins}
use Rattle.row_flows.specs.Behind.{fired}
use Rattle.row_flows.specs.Choices.{bare, next_global, next_state}
use Rattle.row_flows.specs.declared.behind.Firing.{Firing}
use Rattle.row_flows.specs.declared.rows.EventRow.{EventRow}
use Rattle.row_flows.specs.declared.rows.Touched.{Touched}
use Rattle.row_flows.specs.declared.tuples.NumberedTuple.{NumberedTuple}
use Rattle.numbered_paths.specs.Views.{IsState, Views}

module _ (M : Model) (L : Origins M) (A : Objects M) (G : FlowGraphs M) (V : Views M G) where
  -- the number of an object in a function, or of none
  abbrev pub IsNumberOf : ℕ → ℕ → Option M.Obj → Type 0
  IsNumberOf n i None = i ≡ 0
  IsNumberOf n i (Some o) = V.object n i ≡ Some o

  -- ITS MOVE: objects have their states from where the event gives them
  pub record IsMoveOf (n : ℕ) (f : M.Fn) (e : M.Event) (row : EventRow) : Type 0 where
    -- what is touched is an object, and has its state from its source, or from none
    pub sources : (x : Touched) → Contains row.touched.items x → (o : M.Obj) × (V.object n x.object ≡ Some o) × IsNumberOf n x.source (L.source e o)
    -- an object keeps its state, or is touched
    pub touched : (i : ℕ) (o : M.Obj) → V.object n i ≡ Some o → (L.source e o ≡ Some o) ⊎ ((x : Touched) × Contains row.touched.items x × (x.object ≡ i))
    -- an object with the state of one that is followed is followed
    pub followed : (o s : M.Obj) → L.source e o ≡ Some s → A f s → A f o

  module _ (n : ℕ) (f : M.Fn) (k : Bool) (own : List Bool) where
    -- ITS CHOICES lead to the states of the checker
    pub record AreChoicesOf (e : M.Event) (row : EventRow) : Type 0 where
      pub global : (g : ℕ) → V.global (next_global row k own g) ≡ M.next_global e f k (V.global g)
      -- of an object, by its tuple behind the move
      pub state : (t : NumberedTuple) (o : M.Obj) → V.object n t.object ≡ Some o → IsState M A G V t.state
          → V.state (next_state row k own t) ≡ M.choose e f k (V.global t.global) o (V.state t.state)
      pub is_state : (t : NumberedTuple) (o : M.Obj) → V.object n t.object ≡ Some o → IsState M A G V t.state → IsState M A G V (next_state row k own t)

    -- WHAT IT NOTES says the reports of the checker
    pub record AreFiringsOf (report : Firing → M.Report → Type 0) (number : ℕ) (e : M.Event) (row : EventRow) : Type 0 where
      -- of an object, by its tuple behind the move
      pub object : (t : NumberedTuple) (o : M.Obj) (r : M.Report) → V.object n t.object ≡ Some o → IsState M A G V t.state
          → SomeGives report (fired number row k own t) r ↔ M.Fires e f k (V.global t.global) o (V.state t.state) r
      pub global : (g : ℕ) (r : M.Report) → SomeGives report (fired number row k own (bare g)) r ↔ M.FiresGlobal e f k (V.global g) r

    -- ALL THREE
    pub record IsRowOf (report : Firing → M.Report → Type 0) (number : ℕ) (e : M.Event) (row : EventRow) : Type 0 where
      pub move : IsMoveOf n f e row
      pub choices : AreChoicesOf e row
      pub firings : AreFiringsOf report number e row
