-- A least list of an engine's own values is the least set of the edges for which they stand, so it shows exactly the reports of all
-- paths.
use Rattle.std.proofs.Common.{ℕ, Option, List, Contains, ◌↔◌, sym, refl, subst}
use Rattle.path_theory.specs.Model.{Model}
use Rattle.path_theory.specs.FlatPaths.{InErrors}
use Rattle.path_theory.specs.Paths.{Reported}
use Rattle.path_theory.specs.Origins.{Origins, IsLocal}
use Rattle.path_theory.specs.Facts.{Objects}
use Rattle.path_theory.specs.Relevant.{IsClosed}
use Rattle.path_theory.specs.FlowGraphs.{FlowGraphs, supergraph}
use Rattle.least_set.specs.Logs.{SomeGives}
use Rattle.least_set.specs.TwoPremises.{Follows, FollowsBase, FollowsOne, FollowsTwo, Least, LeastBase, LeastOne, LeastTwo}
use Rattle.path_theory.specs.TabulationRules.Rules.{Base, ContextIn, EdgeIn, Ends, Goes, ShowsReport, WaiterIn, Waits, Wakes}
use Rattle.path_theory.specs.TabulationRules.LeastSets.{HasNumbers, IsClosedUnder, IsDerived, IsLeastSet, Shown}
use Rattle.path_theory.specs.TabulationRules.OwnValues.{AreComplete, AreSound, StandsFor}
use Rattle.path_theory.proofs.TabulationRules.Reports.{errors, reported}

module _ (M : Model) (L : Origins M) (A : Objects M) (G : FlowGraphs M) (function : ℕ → Option M.Fn) where
  module _ {E K W : Type 0} (edge : E → EdgeIn M L A G function) (context : K → ContextIn M L A G function) (waiter : W → WaiterIn M L A G function)
      (first : E → Type 0) (next : E → E → Type 0) (wait : E → K → W → Type 0) (stop : E → K → Type 0) (wake : W → E → E → Type 0) where
    derived : AreSound M L A G function edge context waiter first next wait stop wake → {e : E} → Least first next wait stop wake e
        → IsDerived M L A G function (edge e)
    derived S (LeastBase h) = LeastBase (S.base _ h)
    derived S (LeastOne x h) = LeastOne (derived S x) (S.goes _ _ h)
    derived S (LeastTwo x h y e v) = LeastTwo (derived S x) (S.waits _ _ _ h) (derived S y) (S.ends _ _ e) (S.wakes _ _ _ v)

    module _ (C : AreComplete M L A G function edge context waiter first next wait stop wake) (log : List E)
        (closed : (c : E) → Follows first next wait stop wake log c → Contains log c) where
      -- the edges for which a value of the list stands
      abbrev Seen : EdgeIn M L A G function → Type 0
      Seen = StandsFor edge (Contains log)

      seen_base : (c : EdgeIn M L A G function) → Base M L A G function c → Seen c
      seen_base c h = let s = C.base c h in record { value = s.value; is = s.is; holds = closed _ (FollowsBase s.holds) }

      seen_goes : (a c : EdgeIn M L A G function) → Seen a → Goes M L A G function a c → Seen c
      seen_goes a c x h =
          let s = C.goes x.value c (subst (λ e. Goes M L A G function e c) (sym x.is) h) in
          record { value = s.value; is = s.is; holds = closed _ (FollowsOne x.value x.holds s.holds) }

      seen_wakes : (a b c : EdgeIn M L A G function) (k : ContextIn M L A G function) (w : WaiterIn M L A G function) → Seen a
          → Waits M L A G function a k w → Seen b → Ends M L A G function b k → Wakes M L A G function w b c → Seen c
      seen_wakes a b c k w x h y e v =
          let u = C.waits x.value k w (subst (λ z. Waits M L A G function z k w) (sym x.is) h) in
          let stops = C.ends y.value u.on (subst (λ z. Ends M L A G function (edge y.value) z) (sym u.is_on) (subst (λ z. Ends M L A G function z k) (sym y.is) e)) in
          let s = C.wakes u.who y.value c (subst (λ z. Wakes M L A G function z (edge y.value) c) (sym u.is_who) (subst (λ z. Wakes M L A G function w z c) (sym y.is) v)) in
          record { value = s.value; is = s.is; holds = closed _ (FollowsTwo x.value y.value u.on u.who x.holds u.holds y.holds stops s.holds) }

      seen_closed : IsClosedUnder M L A G function Seen
      seen_closed = record { base = seen_base; goes = seen_goes; wakes = seen_wakes }

      module _ (S : AreSound M L A G function edge context waiter first next wait stop wake)
          (only : (c : E) → Contains log c → Least first next wait stop wake c) where
        -- the least list stands for the least set
        pub stands_for_least : IsLeastSet M L A G function Seen
        stands_for_least = record { closed = seen_closed; only = λ e x. subst (IsDerived M L A G function) x.is (derived S (only _ x.holds)) }

        shown_seen : (r : M.Report) → SomeGives (λ c. ShowsReport M L A G function (edge c)) log r ↔ Shown M L A G function Seen r
        shown_seen r = (
          (λ w. (edge w.0, record { value = w.0; is = refl; holds = w.1 }, w.2)),
          (λ w. (w.1.value, w.1.holds, subst (λ e. ShowsReport M L A G function e r) (sym w.1.is) w.2)),
        )

        module _ (N : HasNumbers M G function) (I : IsLocal M L) (Q : IsClosed M (supergraph M G) L A) where
          -- it shows exactly the reports of all paths
          pub own_reported : (r : M.Report) → SomeGives (λ c. ShowsReport M L A G function (edge c)) log r ↔ Reported M (supergraph M G) r
          own_reported r =
              let values = shown_seen r in
              let edges = reported M L A G function Seen N stands_for_least I Q r in ((λ x. edges.0 (values.0 x)), (λ x. values.1 (edges.1 x)))

          pub own_reports : (r : M.Report) → SomeGives (λ c. ShowsReport M L A G function (edge c)) log r ↔ InErrors M (supergraph M G) r
          own_reports r =
              let values = shown_seen r in
              let edges = errors M L A G function Seen N stands_for_least I Q r in ((λ x. edges.0 (values.0 x)), (λ x. values.1 (edges.1 x)))
