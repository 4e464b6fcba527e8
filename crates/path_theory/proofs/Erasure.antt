-- Bodies with the same marked traces are supergraphs with the same traces under every checker, whichever calls it
-- follows.
-- So a flow graph is built once for all checkers.
use Rattle.std.proofs.Common.{◌≡◌, Option, Some, None, refl, ◌∙◌, ap, subst}
use Rattle.path_theory.specs.Model.{Model}
use Rattle.path_theory.specs.Supergraph.{Supergraph}
use Rattle.path_theory.specs.Trails.{Start, More}
use Rattle.path_theory.specs.Walks.{AtEvent, AtCall, Labels, Walk, WalkStart, WalkSkip, WalkGo, WalkCall, HasTraces}
use Rattle.path_theory.specs.Marks.{EventMark, CallMark, Bodies, Marked, MarkedWalk, MarkedStart, MarkedSkip, MarkedGo, MarkedCall, HasMarked, Passes, PassesSkip, PassesCall, under, with_mark, erase}

module _ (M : Model) (IsRoot : M.Fn → Type 0) (followed : M.Fn → M.Site → Option M.Fn) where
  abbrev N : Bodies M → Supergraph M
  N = under M IsRoot followed

  call_walk : (B : Bodies M) {f : M.Fn} {l : Labels M} {p q : B.Place} (s : M.Site) (z : Option M.Fn)
      → followed f s ≡ z → B.Marks f p s q → Walk M (N B) f l p → Walk M (N B) f (with_mark M IsRoot followed z s l) q
  call_walk B s None d t W = WalkSkip W (PassesCall s t d)
  call_walk B s (Some h) d t W = WalkCall W s h (t, d)

  erased : (B : Bodies M) {f : M.Fn} {m : Marked M} {q : B.Place} → MarkedWalk M B f m q
      → Walk M (N B) f (erase M IsRoot followed f m) q
  erased B MarkedStart = WalkStart
  erased B (MarkedSkip W t) = WalkSkip (erased B W) (PassesSkip t)
  erased B (MarkedGo W e t) = WalkGo (erased B W) e t
  erased B (MarkedCall {f = f} W s t) = call_walk B s (followed f s) refl t (erased B W)

  record Unerased (B : Bodies M) (f : M.Fn) (l : Labels M) (q : B.Place) : Type 0 where
    marked : Marked M
    walk : MarkedWalk M B f marked q
    same : erase M IsRoot followed f marked ≡ l

  un_skip : (B : Bodies M) {f : M.Fn} {l : Labels M} {p q : B.Place} → Passes M IsRoot followed B f p q
      → Unerased B f l p → Unerased B f l q
  un_skip B (PassesSkip t) w = record { marked = w.marked; walk = MarkedSkip w.walk t; same = w.same }
  un_skip B {f = f} (PassesCall s t d) w = record { marked = More w.marked (CallMark s); walk = MarkedCall w.walk s t; same = ap (λ z. with_mark M IsRoot followed z s (erase M IsRoot followed f w.marked)) d ∙ w.same }

  unerased : (B : Bodies M) {f : M.Fn} {l : Labels M} {q : B.Place} → Walk M (N B) f l q → Unerased B f l q
  unerased B WalkStart = record { marked = Start; walk = MarkedStart; same = refl }
  unerased B (WalkSkip W t) = un_skip B t (unerased B W)
  unerased B (WalkGo W e t) = let w = unerased B W in record { marked = More w.marked (EventMark e); walk = MarkedGo w.walk e t; same = ap (λ l. More l (AtEvent e)) w.same }
  unerased B (WalkCall {f = f} W s h t) =
      let w = unerased B W in
      record { marked = More w.marked (CallMark s); walk = MarkedCall w.walk s t.0; same = ap (λ z. with_mark M IsRoot followed z s (erase M IsRoot followed f w.marked)) t.1 ∙ ap (λ l. More l (AtCall s h)) w.same }

  pub traces_under : (B₁ B₂ : Bodies M) → HasMarked M B₁ B₂ → HasTraces M (N B₁) (N B₂)
  traces_under B₁ B₂ H = record {
    roots = λ f r. r;
    traces = λ f l w.
        let u = unerased B₁ w.1 in
        let v = H.traces f u.marked w.0 u.walk in
        (v.0, subst (λ l. Walk M (N B₂) f l v.0) u.same (erased B₂ v.1));
    whole = λ f l w.
        let u = unerased B₁ w.1 in
        let v = H.whole f u.marked w.0 u.walk w.2 in
        (v.0, subst (λ l. Walk M (N B₂) f l v.0) u.same (erased B₂ v.1), v.2);
  }
