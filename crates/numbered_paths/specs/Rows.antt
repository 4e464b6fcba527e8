-- ROWS THAT STAND FOR EVENTS: what a tuple becomes over the row is what its fact becomes over the event, and what is noted is what is reported.
use Rattle.std.specs.Prelude.{◌≡◌, ℕ, ◌+◌, Bool, List, [], ◌∷◌, Contains, Option}
use Rattle.path_theory.specs.BlockEdges.{Crosses, Shows}
use Rattle.path_theory.specs.Facts.{Fact, Objects, Gives, IfNoObject, NoObject}
use Rattle.path_theory.specs.FlowGraphs.{FlowGraphs}
use Rattle.path_theory.specs.Flows.{EventFlow}
use Rattle.path_theory.specs.Model.{Model}
use Rattle.path_theory.specs.Origins.{Origins}
use Rattle.row_flows.specs.Behind.{behind, firings}
use Rattle.row_flows.specs.Crossing.{ends, shown}
use Rattle.row_flows.specs.declared.behind.Firing.{Firing}
use Rattle.row_flows.specs.declared.rows.EventRow.{EventRow}
use Rattle.row_flows.specs.declared.tuples.NumberedTuple.{NumberedTuple}
use Rattle.numbered_paths.specs.Views.{IsNumbered, Views, fact_at}

module _ (M : Model) (L : Origins M) (A : Objects M) (G : FlowGraphs M) (V : Views M G) where
  -- the report of an event is given here, by an object or by the global state
  pub data ShowsHere (f : M.Fn) (k : Bool) (r : M.Report) (e : M.Event) (g : M.Global) : Fact M → Type 0 where
    ShowsOf : {t : Fact M} (o : M.Obj) (x : Option M.State) → IfNoObject t (A f o) → Gives (L.source e o) t x → M.Fires e f k g o x r → ShowsHere f k r e g t
    ShowsAlone : M.FiresGlobal e f k g r → ShowsHere f k r e g NoObject

  module _ (n : ℕ) (f : M.Fn) (k : Bool) (own : List Bool) where
    -- A ROW STANDS FOR AN EVENT in frames of this kind. The report of what is noted there is said by `report`.
    pub record IsRow (report : Firing → M.Report → Type 0) (number : ℕ) (e : M.Event) (row : EventRow) : Type 0 where
      pub sound : (t u : NumberedTuple) → IsNumbered M A G V n t → Contains (behind row k own t) u → IsNumbered M A G V n u
          × (V.global u.global ≡ M.next_global e f k (V.global t.global)) × EventFlow M L A f k e (V.global t.global) (fact_at M A G V n t) (fact_at M A G V n u)
      pub whole : (t : NumberedTuple) (v : Fact M) → IsNumbered M A G V n t → EventFlow M L A f k e (V.global t.global) (fact_at M A G V n t) v
          → (u : NumberedTuple) × Contains (behind row k own t) u × (fact_at M A G V n u ≡ v)
      pub reported : (t : NumberedTuple) (x : Firing) (r : M.Report) → IsNumbered M A G V n t → Contains (firings number row k own t) x → report x r
          → ShowsHere f k r e (V.global t.global) (fact_at M A G V n t)
      pub noted : (t : NumberedTuple) (r : M.Report) → IsNumbered M A G V n t → ShowsHere f k r e (V.global t.global) (fact_at M A G V n t)
          → (x : Firing) × Contains (firings number row k own t) x × report x r

    -- one by one, where the first event has this number
    abbrev pub AreRows : (Firing → M.Report → Type 0) → ℕ → List M.Event → List EventRow → Type 0
    AreRows report number [] [] = Unit {0}
    AreRows report number [] (row ∷ rows) = ⊥
    AreRows report number (e ∷ es) [] = ⊥
    AreRows report number (e ∷ es) (row ∷ rows) = IsRow report number e row × AreRows report (number + 1) es rows

    -- THE ROWS OF A BLOCK STAND FOR ITS EVENTS: what is at its end, and what is reported on the way
    pub record StandFor (report : Firing → M.Report → Type 0) (es : List M.Event) (rows : List EventRow) : Type 0 where
      pub sound : (t u : NumberedTuple) → IsNumbered M A G V n t → Contains (ends rows k own t) u → IsNumbered M A G V n u
          × Crosses M L A f k es (V.global t.global) (fact_at M A G V n t) (V.global u.global) (fact_at M A G V n u)
      pub whole : (t : NumberedTuple) (i : M.Global) (v : Fact M) → IsNumbered M A G V n t → Crosses M L A f k es (V.global t.global) (fact_at M A G V n t) i v
          → (u : NumberedTuple) × Contains (ends rows k own t) u × IsNumbered M A G V n u × (V.global u.global ≡ i) × (fact_at M A G V n u ≡ v)
      pub reported : (t : NumberedTuple) (x : Firing) (r : M.Report) → IsNumbered M A G V n t → Contains (shown 0 rows k own t) x → report x r
          → Shows M L A f k r es (V.global t.global) (fact_at M A G V n t)
      pub noted : (t : NumberedTuple) (r : M.Report) → IsNumbered M A G V n t → Shows M L A f k r es (V.global t.global) (fact_at M A G V n t)
          → (x : Firing) × Contains (shown 0 rows k own t) x × report x r
