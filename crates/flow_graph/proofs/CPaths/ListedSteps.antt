-- The list of all steps is right.
use Rattle.std.proofs.Common.{◌≡◌, Bool, true, false, not, List, [], ◌∷◌, ◌++◌, ◌⊎◌, inl, inr, Some, refl, sym, ap, subst}
use Rattle.path_theory.specs.Marks.{EventMark}
use Rattle.flow_graph.specs.CPaths.Membership.{Among}
use Rattle.flow_graph.specs.CPaths.Events.{Item}
use Rattle.flow_graph.specs.CPaths.Words.{Only, Then}
use Rattle.flow_graph.specs.CPaths.Forms.{Form, Row, done}
use Rattle.flow_graph.specs.CPaths.Evaluation.{Happens, Condition, MaybeCondition}
use Rattle.flow_graph.specs.CPaths.Flow.{Flow, Does, Block, If, While, Do, For, Switch, Case, Default, Label, Goto, Break, Continue, Return}
use Rattle.flow_graph.specs.CPaths.Tasks.{Task, Run, Test, Turn, Behind, Close, Nowhere, in_order, after_break, after_continue}
use Rattle.flow_graph.specs.CPaths.Steps.{StepOf, Step}
use Rattle.flow_graph.specs.CPaths.Labels.{if_so, labels_at, cases_at, has_default}
use Rattle.flow_graph.specs.CPaths.Listing.{words_of, words_in, with_each, to_each, silently, steps_of, steps}
use Rattle.flow_graph.proofs.CPaths.Listed.{among_front, among_back, among_either, Lists, lists_only, lists_then, words_listed, row_listed, maybe_listed}

-- the list has exactly the continuations of the set
pub record ListsTasks (P : List Task → Type 0) (hs : List (List Task)) : Type 0 where
  pub all : (h : List Task) → P h → Among h hs
  pub only : (h : List Task) → Among h hs → P h

-- the list has exactly the steps of the set
pub record ListsSteps (S : List Item → List Task → Type 0) (ss : List (List Item × List Task)) : Type 0 where
  pub all : (l : List Item) (h : List Task) → S l h → Among (l, h) ss
  pub only : (l : List Item) (h : List Task) → Among (l, h) ss → S l h

no_tasks : (P : List Task → Type 0) → ((h : List Task) → P h → ⊥) → ListsTasks P []
no_tasks P n = record { all = λ h p. absurd (n h p); only = λ h x. absurd x }

one_task : (k : List Task) → ListsTasks (λ h. h ≡ k) (k ∷ [])
one_task k = record { all = λ h e. inl e; only = λ h a. elim a [ inl e ↦ e | inr x ↦ absurd x ] }

either_task : (P Q : List Task → Type 0) (xs ys : List (List Task)) → ListsTasks P xs → ListsTasks Q ys → ListsTasks (λ h. P h ⊎ Q h) (xs ++ ys)
either_task P Q xs ys a b = record {
  all = λ h p. elim p [ inl x ↦ among_front h xs ys (a.all h x) | inr x ↦ among_back h xs ys (b.all h x) ];
  only = λ h p. elim (among_either h xs ys p) [ inl x ↦ inl (a.only h x) | inr x ↦ inr (b.only h x) ];
}

if_task : (b : Bool) (P : Type 0) (k : List Task) → (P → b ≡ true) → (b ≡ true → P) → ListsTasks (λ h. P × (h ≡ k)) (if_so b k)
if_task true P k to from = record { all = λ h p. inl p.1; only = λ h a. elim a [ inl e ↦ (from refl, e) | inr x ↦ absurd x ] }
if_task false P k to from = record { all = λ h p. let bad : false ≡ true = to p.0 in cc; only = λ h a. absurd a }

-- a list has exactly its own continuations
themselves : (hs : List (List Task)) → ListsTasks (λ h. Among h hs) hs
themselves hs = record { all = λ h a. a; only = λ h a. a }

untrue : (b : Bool) → not b ≡ true → b ≡ false
untrue true e = let bad : false ≡ true = e in cc
untrue false e = refl

-- where a switch leads
switch_tasks : (s : Flow) (k : List Task) → ListsTasks (λ h. Among h (cases_at s (Behind ∷ k)) ⊎ ((has_default s ≡ false) × (h ≡ k))) (cases_at s (Behind ∷ k) ++ if_so (not (has_default s)) k)
switch_tasks s k = either_task _ (λ h. (has_default s ≡ false) × (h ≡ k)) _ _ (themselves (cases_at s (Behind ∷ k))) (if_task (not (has_default s)) (has_default s ≡ false) k (λ e. ap (λ b. not b) e) (untrue (has_default s)))

among_with : (w : List Item) (h : List Task) (hs : List (List Task)) → Among h hs → Among (w, h) (with_each w hs)
among_with w h [] a = absurd a
among_with w h (k ∷ hs) (inl e) = inl (ap (λ x. (w, x)) e)
among_with w h (k ∷ hs) (inr a) = inr (among_with w h hs a)

of_with : (w l : List Item) (h : List Task) (hs : List (List Task)) → Among (l, h) (with_each w hs) → (l ≡ w) × Among h hs
of_with w l h [] a = absurd a
of_with w l h (k ∷ hs) (inl e) = (ap (λ x. x.0) e, inl (ap (λ x. x.1) e))
of_with w l h (k ∷ hs) (inr a) = let b = of_with w l h hs a in (b.0, inr b.1)

among_each : (l : List Item) (h : List Task) (ws : List (List Item)) (hs : List (List Task)) → Among l ws → Among h hs → Among (l, h) (to_each ws hs)
among_each l h [] hs a b = absurd a
among_each l h (w ∷ ws) hs (inl e) b = among_front (l, h) (with_each w hs) (to_each ws hs) (subst (λ x. Among (l, h) (with_each x hs)) e (among_with l h hs b))
among_each l h (w ∷ ws) hs (inr a) b = among_back (l, h) (with_each w hs) (to_each ws hs) (among_each l h ws hs a b)

of_each : (l : List Item) (h : List Task) (ws : List (List Item)) (hs : List (List Task)) → Among (l, h) (to_each ws hs) → Among l ws × Among h hs
of_each l h [] hs a = absurd a
of_each l h (w ∷ ws) hs a = elim (among_either (l, h) (with_each w hs) (to_each ws hs) a) [
  | inl b ↦ let c = of_with w l h hs b in (inl c.0, c.1)
  | inr b ↦ let c = of_each l h ws hs b in (inr c.0, c.1)
]

each_step : (A : List Item → Type 0) (P : List Task → Type 0) (ws : List (List Item)) (hs : List (List Task)) → Lists A ws → ListsTasks P hs → ListsSteps (λ l h. A l × P h) (to_each ws hs)
each_step A P ws hs a p = record {
  all = λ l h s. among_each l h ws hs (a.all l s.0) (p.all h s.1);
  only = λ l h s. let b = of_each l h ws hs s in (a.only l b.0, p.only h b.1);
}

silent_steps : (P : List Task → Type 0) (hs : List (List Task)) → ListsTasks P hs → ListsSteps (λ l h. (l ≡ []) × P h) (with_each [] hs)
silent_steps P hs p = record {
  all = λ l h s. subst (λ x. Among (x, h) (with_each [] hs)) (sym s.0) (among_with [] h hs (p.all h s.1));
  only = λ l h s. let b = of_with [] l h hs s in (b.0, p.only h b.1);
}

silent_step : (k : List Task) → ListsSteps (λ l h. (l ≡ []) × (h ≡ k)) (silently k)
silent_step k = silent_steps (λ h. h ≡ k) (k ∷ []) (one_task k)

either_step : (S T : List Item → List Task → Type 0) (ss ts : List (List Item × List Task)) → ListsSteps S ss → ListsSteps T ts → ListsSteps (λ l h. S l h ⊎ T l h) (ss ++ ts)
either_step S T ss ts a b = record {
  all = λ l h s. elim s [ inl x ↦ among_front (l, h) ss ts (a.all l h x) | inr x ↦ among_back (l, h) ss ts (b.all l h x) ];
  only = λ l h s. elim (among_either (l, h) ss ts s) [ inl x ↦ inl (a.only l h x) | inr x ↦ inr (b.only l h x) ];
}

row_step : (r : Row) (k : List Task) → ListsSteps (λ l h. Happens r l × (h ≡ k)) (to_each (words_in r) (k ∷ []))
row_step r k = each_step (Happens r) (λ h. h ≡ k) (words_in r) (k ∷ []) (row_listed r) (one_task k)

choice_step : (c : Form) (j k : List Task) → ListsSteps (λ l h. (Condition c true l × (h ≡ j)) ⊎ (Condition c false l × (h ≡ k))) (to_each (words_of c (Some true)) (j ∷ []) ++ to_each (words_of c (Some false)) (k ∷ []))
choice_step c j k = either_step _ _ _ _
    (each_step (Condition c true) (λ h. h ≡ j) _ _ (words_listed c (Some true)) (one_task j))
    (each_step (Condition c false) (λ h. h ≡ k) _ _ (words_listed c (Some false)) (one_task k))

module _ (body : Flow) (whole : List Task) where
  steps_of_listed : (s : Flow) (k : List Task) → ListsSteps (StepOf body whole s k) (steps_of body whole s k)
  steps_of_listed (Does r) k = row_step r k
  steps_of_listed (Block ss) k = silent_step (in_order ss k)
  steps_of_listed (If c s t) k = choice_step c (Run s ∷ k) (Run t ∷ k)
  steps_of_listed (While c s) k = silent_step (Test (Some c) done s ∷ k)
  steps_of_listed (Do s c) k = silent_step (Run s ∷ Turn (Some c) done s ∷ k)
  steps_of_listed (For i c u s) k = row_step i (Test c u s ∷ k)
  steps_of_listed (Switch r s) k = each_step (Happens r) _ _ _ (row_listed r) (switch_tasks s k)
  steps_of_listed (Case s) k = silent_step (Run s ∷ k)
  steps_of_listed (Default s) k = silent_step (Run s ∷ k)
  steps_of_listed (Label M s) k = silent_step (Run s ∷ k)
  steps_of_listed (Goto L) k = silent_steps (λ h. Among h (labels_at L body whole)) (labels_at L body whole) (themselves (labels_at L body whole))
  steps_of_listed Break k = silent_step (after_break k)
  steps_of_listed Continue k = silent_step (after_continue k)
  steps_of_listed (Return r e) k = each_step (Then (Happens r) (Only (EventMark e))) (λ h. h ≡ []) _ _ (lists_then _ _ _ _ (row_listed r) (lists_only (EventMark e))) (one_task [])

  pub steps_listed : (k : List Task) → ListsSteps (Step body whole k) (steps body whole k)
  steps_listed [] = record { all = λ l h x. absurd x; only = λ l h x. absurd x }
  steps_listed (Run s ∷ k) = steps_of_listed s k
  steps_listed (Test c u s ∷ k) = either_step _ _ _ _
      (each_step (MaybeCondition c true) (λ h. h ≡ Run s ∷ Turn c u s ∷ k) _ _ (maybe_listed c true) (one_task (Run s ∷ Turn c u s ∷ k)))
      (each_step (MaybeCondition c false) (λ h. h ≡ k) _ _ (maybe_listed c false) (one_task k))
  steps_listed (Turn c u s ∷ k) = row_step u (Test c u s ∷ k)
  steps_listed (Behind ∷ k) = silent_step k
  steps_listed (Close e ∷ k) = each_step (Only (EventMark e)) (λ h. h ≡ []) ((EventMark e ∷ []) ∷ []) ([] ∷ []) (lists_only (EventMark e)) (one_task [])
  steps_listed (Nowhere ∷ k) = record { all = λ l h x. absurd x; only = λ l h x. absurd x }
