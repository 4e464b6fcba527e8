-- By which of a rule's alternatives it is taken.
use Rattle.std.proofs.Common.{◌≡◌, ℕ, zero, suc, List, [], ◌∷◌, drop, Option, None, Some, Bor, ap, subst, ◌∙◌}
use Rattle.std.specs.Prelude.{IfSome, slice_get}
use Rattle.std.specs.List.{All}
use Rattle.block_flows.specs.declared.taken_rules.Firing.{Firing}
use Rattle.block_flows.specs.Firings.{IsFirstHere, IsFirstAmong}
use Rattle.path_model.specs.CheckerModel.Happenings.{Function, Happening}
use Rattle.path_model.specs.CheckerModel.Reports.{Checker}
use Rattle.state_tuples.specs.declared.rule_choices.fired.Fired.{Fired}

-- what is known of one is known of it where it is kept
pub kept : (o q : Option (Bor Fired)) (P : Fired → Type 0) → IfSome o (λ (t : Bor Fired). q ≡ Some t) → IfSome q (λ (t : Bor Fired). P t.now)
    → IfSome o (λ (t : Bor Fired). P t.now)
kept None q P same h = tt
kept (Some t) q P same h = subst (λ (z : Option (Bor Fired)). IfSome z (λ (t : Bor Fired). P t.now)) same h

at : {A : Type 0} (n : ℕ) (xs : List A) (x : A) (left : List A) → drop n xs ≡ x ∷ left → slice_get xs n ≡ Some x
at zero [] x left e = cc
at zero (y ∷ ys) x left e = let same : y ≡ x = cc in ap Some same
at (suc n) [] x left e = cc
at (suc n) (y ∷ ys) x left e = at n ys x left e

-- what is taken at the next of some events is taken at one of them
pub among : (c : Checker) (hs : List Happening) (f : Function) (h : Happening) (left : List Happening) (n : ℕ) (list : List Firing) → drop n hs ≡ h ∷ left
    → All (IsFirstHere c h f n) list → All (IsFirstAmong c hs f) list
among c hs f h left n list e all = λ k d within. let x = all k d within in (h, ap (slice_get hs) x.0 ∙ at n hs h left e, x.1)
