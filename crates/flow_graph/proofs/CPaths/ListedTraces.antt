-- The lists of the longest traces are right.
use Rattle.std.proofs.Common.{◌≡◌, ◌↔◌, ℕ, zero, suc, Bool, true, false, List, [], ◌∷◌, ◌++◌, ◌⊎◌, inl, inr, refl, sym, ap, ◌∙◌, subst, append_assoc}
use Rattle.std.specs.Prelude.{◌&&◌}
use Rattle.flow_graph.specs.CPaths.Membership.{Among}
use Rattle.flow_graph.specs.CPaths.Events.{Item, Exited}
use Rattle.flow_graph.specs.CPaths.Facts.{Facts}
use Rattle.flow_graph.specs.CPaths.Flow.{Flow}
use Rattle.flow_graph.specs.CPaths.Tasks.{Task, Run, Close}
use Rattle.flow_graph.specs.CPaths.Steps.{Step}
use Rattle.flow_graph.specs.CPaths.TreeFlow.{flow_of}
use Rattle.flow_graph.specs.CPaths.Traces.{Runs, TraceFrom, Definition, Trace}
use Rattle.flow_graph.specs.CPaths.Listing.{before_each, stepped, or_nothing, steps, longest, holds_of_each, ends_within, longest_traces, finishes_within, Begins}
use Rattle.flow_graph.proofs.CPaths.Listed.{among_front, among_back, among_either, among_before, of_before}
use Rattle.flow_graph.proofs.CPaths.ListedSteps.{steps_listed}

append_nothing : (l : List Item) → l ++ [] ≡ l
append_nothing [] = refl
append_nothing (x ∷ l) = ap (λ m. x ∷ m) (append_nothing l)

of_stepped : (f : List Task → List (List Item)) (ss : List (List Item × List Task)) (l : List Item) → Among l (stepped f ss) → (x y : List Item) × (h : List Task) × Among (x, h) ss × Among y (f h) × (l ≡ x ++ y)
of_stepped f [] l a = absurd a
of_stepped f (s ∷ ss) l a = elim (among_either l (before_each s.0 (f s.1)) (stepped f ss) a) [
  | inl b ↦ let c = of_before s.0 l (f s.1) b in (s.0, c.0, s.1, inl refl, c.1, c.2)
  | inr b ↦ let c = of_stepped f ss l b in (c.0, c.1, c.2, inr c.3, c.4, c.5)
]

of_longest : (f : List Task → List (List Item)) (ss : List (List Item × List Task)) (l : List Item) → Among l (or_nothing ss (stepped f ss)) → (l ≡ []) ⊎ ((x y : List Item) × (h : List Task) × Among (x, h) ss × Among y (f h) × (l ≡ x ++ y))
of_longest f [] l a = elim a [ inl e ↦ inl e | inr x ↦ absurd x ]
of_longest f (s ∷ ss) l a = inr (of_stepped f (s ∷ ss) l a)

among_stepped : (f : List Task → List (List Item)) (ss : List (List Item × List Task)) (x y : List Item) (h : List Task) → Among (x, h) ss → Among y (f h) → Among (x ++ y) (stepped f ss)
among_stepped f [] x y h a b = absurd a
among_stepped f (s ∷ ss) x y h (inl e) b =
    among_front (x ++ y) (before_each s.0 (f s.1)) (stepped f ss) (subst (λ p. Among (x ++ y) (before_each p.0 (f p.1))) e (among_before x y (f h) b))
among_stepped f (s ∷ ss) x y h (inr a) b = among_back (x ++ y) (before_each s.0 (f s.1)) (stepped f ss) (among_stepped f ss x y h a b)

among_longest : (f : List Task → List (List Item)) (ss : List (List Item × List Task)) (x y : List Item) (h : List Task) → Among (x, h) ss → Among y (f h) → Among (x ++ y) (or_nothing ss (stepped f ss))
among_longest f [] x y h a b = absurd a
among_longest f (s ∷ ss) x y h a b = among_stepped f (s ∷ ss) x y h a b

some_longest : (f : List Task → List (List Item)) → ((h : List Task) → (w : List Item) × Among w (f h)) → (ss : List (List Item × List Task)) → (w : List Item) × Among w (or_nothing ss (stepped f ss))
some_longest f g [] = ([], inl refl)
some_longest f g (s ∷ ss) = let w = g s.1 in (s.0 ++ w.0, among_longest f (s ∷ ss) s.0 w.0 s.1 (inl refl) w.1)

and_left : (a b : Bool) → (a && b) ≡ true → a ≡ true
and_left true b e = refl
and_left false b e = e

and_right : (a b : Bool) → (a && b) ≡ true → b ≡ true
and_right true b e = e
and_right false b e = let bad : false ≡ true = e in cc

each_holds : (f : List Task → Bool) (ss : List (List Item × List Task)) (x : List Item) (h : List Task) → holds_of_each f ss ≡ true → Among (x, h) ss → f h ≡ true
each_holds f [] x h e a = absurd a
each_holds f (s ∷ ss) x h e (inl q) = subst (λ p. f p.1 ≡ true) (sym q) (and_left (f s.1) (holds_of_each f ss) e)
each_holds f (s ∷ ss) x h e (inr a) = each_holds f ss x h (and_right (f s.1) (holds_of_each f ss) e) a

module _ (body : Flow) (whole : List Task) where
  some : (n : ℕ) (k : List Task) → (w : List Item) × Among w (longest body whole n k)
  some zero k = ([], inl refl)
  some (suc n) k = some_longest (longest body whole n) (some n) (steps body whole k)

  pub longest_run : (n : ℕ) (k : List Task) (l : List Item) → Among l (longest body whole n k) → Runs body whole n k l
  longest_run zero k l a = elim a [ inl e ↦ e | inr x ↦ absurd x ]
  longest_run (suc n) k l a = elim (of_longest (longest body whole n) (steps body whole k) l a) [
    | inl e ↦ inl e
    | inr s ↦ inr (s.0, s.1, s.2, (steps_listed body whole k).only s.0 s.2 s.3, longest_run n s.2 s.1 s.4, s.5)
  ]

  nothing_begins : (n : ℕ) (k : List Task) (l : List Item) → l ≡ [] → Begins l (longest body whole n k)
  nothing_begins n k l e = let w = some n k in (w.0, w.0, w.1, sym (ap (λ m. m ++ w.0) e))

  -- behind a step
  step_begins : (n : ℕ) (k h : List Task) (l x y : List Item) → Step body whole k x h → Begins y (longest body whole n h) → l ≡ x ++ y → Begins l (longest body whole (suc n) k)
  step_begins n k h l x y s b e = (
    x ++ b.0,
    b.1,
    among_longest (longest body whole n) (steps body whole k) x b.0 h ((steps_listed body whole k).all x h s) b.2,
    ap (λ m. x ++ m) b.3 ∙ sym (append_assoc x y b.1) ∙ ap (λ m. m ++ b.1) (sym e),
  )

  -- what at most n steps give begins one of the list
  pub run_begins : (n : ℕ) (k : List Task) (l : List Item) → Runs body whole n k l → Begins l (longest body whole n k)
  run_begins zero k l e = nothing_begins zero k l e
  run_begins (suc n) k l (inl e) = nothing_begins (suc n) k l e
  run_begins (suc n) k l (inr (x, y, h, s, r, e)) = step_begins n k h l x y s (run_begins n h y r) e

  -- so does what any number of steps give, if no more than n can be made
  pub ended_begins : (n m : ℕ) (k : List Task) (l : List Item) → ends_within body whole n k ≡ true → Runs body whole m k l → Begins l (longest body whole n k)
  ended_begins n zero k l t e = nothing_begins n k l e
  ended_begins n (suc m) k l t (inl e) = nothing_begins n k l e
  ended_begins zero (suc m) k l t (inr (x, y, h, s, r, e)) =
      let bad : false ≡ true = each_holds (λ h. false) (steps body whole k) x h t ((steps_listed body whole k).all x h s) in cc
  ended_begins (suc n) (suc m) k l t (inr (x, y, h, s, r, e)) =
      step_begins n k h l x y s (ended_begins n m h y (each_holds (ends_within body whole n) (steps body whole k) x h t ((steps_listed body whole k).all x h s)) r) e

  begins_trace : (n : ℕ) (k : List Task) (l : List Item) → Begins l (longest body whole n k) → TraceFrom body whole k l
  begins_trace n k l b = (n, b.1, longest_run n k (l ++ b.1) (subst (λ w. Among w (longest body whole n k)) b.3 b.2))

  shorter_begins : (n : ℕ) (k : List Task) (l rest : List Item) → Begins (l ++ rest) (longest body whole n k) → Begins l (longest body whole n k)
  shorter_begins n k l rest b = (b.0, rest ++ b.1, b.2, b.3 ∙ append_assoc l rest b.1)

pub listed_are_traces : (F : Facts) (d : Definition) (n : ℕ) (l : List Item) → Begins l (longest_traces F d n) → Trace F d l
listed_are_traces F d n l b = begins_trace (flow_of F d.place d.body) (Close (Exited d.place d.close) ∷ []) n (Run (flow_of F d.place d.body) ∷ Close (Exited d.place d.close) ∷ []) l b

pub finished_lists_are_all : (F : Facts) (d : Definition) (n : ℕ) → finishes_within F d n ≡ true → (l : List Item) → Trace F d l ↔ Begins l (longest_traces F d n)
finished_lists_are_all F d n t l =
    let body = flow_of F d.place d.body in
    let whole = Close (Exited d.place d.close) ∷ [] in
    let start = Run (flow_of F d.place d.body) ∷ Close (Exited d.place d.close) ∷ [] in
    (λ r. shorter_begins body whole n start l r.1 (ended_begins body whole n r.0 start (l ++ r.1) t r.2), λ b. begins_trace body whole n start l b)
