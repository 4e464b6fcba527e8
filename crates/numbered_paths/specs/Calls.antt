-- A CALL'S TABLES STAND FOR A SITE: with what the callee is entered, what is handed back, and what is saved.
use Rattle.std.specs.Prelude.{◌≡◌, ◌↔◌, ℕ, true, Contains, None, Some}
use Rattle.numbered_engine.specs.Following.{passed}
use Rattle.numbered_engine.specs.declared.program.Call.{Call}
use Rattle.numbered_paths.specs.Views.{IsNumbered, Views, fact_at}
use Rattle.path_theory.specs.Facts.{Fact, Objects}
use Rattle.path_theory.specs.FlowGraphs.{FlowGraphs}
use Rattle.path_theory.specs.Flows.{CallFlow, ReturnFlow}
use Rattle.path_theory.specs.Model.{Model}
use Rattle.path_theory.specs.Origins.{Origins}
use Rattle.row_flows.specs.Numbers.{is_own}
use Rattle.row_flows.specs.declared.tuples.NumberedTuple.{NumberedTuple}

module _ (M : Model) (L : Origins M) (A : Objects M) (G : FlowGraphs M) (V : Views M G) where
  -- of a caller and a callee with these numbers
  pub record IsCall (n m : ℕ) (f h : M.Fn) (s : M.Site) (c : Call) : Type 0 where
    pub enters : (t v : NumberedTuple) → IsNumbered M A G V n t → Contains (passed c.entered.items t) v
        → IsNumbered M A G V m v × (v.global ≡ t.global) × CallFlow M L A s h (fact_at M A G V n t) (fact_at M A G V m v)
    pub entered : (t : NumberedTuple) (y : Fact M) → IsNumbered M A G V n t → CallFlow M L A s h (fact_at M A G V n t) y
        → (v : NumberedTuple) × Contains (passed c.entered.items t) v × (fact_at M A G V m v ≡ y)
    pub hands : (t v : NumberedTuple) → IsNumbered M A G V m t → Contains (passed c.handed.items t) v
        → IsNumbered M A G V n v × (v.global ≡ t.global) × ReturnFlow M L A s f (fact_at M A G V m t) (fact_at M A G V n v)
    pub handed : (t : NumberedTuple) (y : Fact M) → IsNumbered M A G V m t → ReturnFlow M L A s f (fact_at M A G V m t) y
        → (v : NumberedTuple) × Contains (passed c.handed.items t) v × (fact_at M A G V n v ≡ y)
    pub saves : (i : ℕ) (o : M.Obj) → V.object n i ≡ Some o → (is_own c.saved.items i ≡ true) ↔ (L.out s o ≡ None)
