-- Lists of linked objects: those of the one way, and the one of the other.
use Rattle.std.proofs.Common.{arith, ◌≡◌, ◌⊎◌, inl, inr, zero, suc, List, [], ◌∷◌, ◌++◌, Contains, Option, Some, ◌∙◌, sym, ap, subst, Result, Ok, Err, IfOk}
use Rattle.std.proofs.lemmas.List.{append-nil}
use Rattle.std.proofs.lemmas.List.Elements.{Contains-push, Contains-push_cases}
use Rattle.std.proofs.lemmas.Option.{same_Some}
use Rattle.flow_graph.specs.CPaths.Membership.{Among}
use Rattle.least_set.proofs.Growing.{nothing}
use Rattle.least_set.specs.Logs.{Adds, IsExactly}

-- ---- among a list, and at a position of it

pub among-contains : {A : Type 0} (xs : List A) (x : A) → Among x xs → Contains xs x
among-contains [] x h = absurd h
among-contains (y ∷ xs) x (inl e) = (0, omega arith, sym e)
among-contains (y ∷ xs) x (inr h) = let k = among-contains xs x h in let within = k.1 in (suc k.0, omega (arith, within), k.2)

pub contains-among : {A : Type 0} (xs : List A) (x : A) → Contains xs x → Among x xs
contains-among [] x h = let within = h.1 in absurd (omega (arith, within))
contains-among (y ∷ xs) x (zero, l, e) = inl (sym e)
contains-among (y ∷ xs) x (suc k, l, e) = inr (contains-among xs x (k, omega (arith, l), e))

-- the list is exactly what is real and whole
pub among-exactly : {A : Type 0} (P : A → Type 0) (xs : List A) → ((x : A) → Among x xs → P x) → ((x : A) → P x → Among x xs) → IsExactly xs P
among-exactly P xs real whole = (λ x h. real x (contains-among xs x h), λ x p. among-contains xs x (whole x p))

-- ---- one more, if it isn't there

module _ {A : Type 0} (old : List A) (q : Option A) (x : A) (is : q ≡ Some x) where
  this : (y : A) → q ≡ Some y → x ≡ y
  this y e = same_Some x y (sym is ∙ e)

  pub none-added : Contains old x → Adds (λ y. q ≡ Some y) old old
  none-added there = record {
    more = [];
    whole = sym (append-nil old);
    added = λ y e. subst (Contains old) (this y e) there;
    only = λ y w. absurd (nothing y w);
  }

  pub one-added : (new : List A) → new ≡ old ++ (x ∷ []) → Adds (λ y. q ≡ Some y) old new
  one-added new e = record {
    more = x ∷ [];
    whole = e;
    added = λ y k. subst (Contains new) (this y k) (subst (λ l. Contains l x) (sym e) (Contains-push old x));
    only = λ y w. elim (Contains-push_cases [] x y w) [ inl o ↦ absurd (nothing y o) | inr d ↦ is ∙ ap Some d ];
  }

-- the two ways are the other way round
pub turned : {A : Type 0} (P Q : A → Type 0) (xs : List A) → IsExactly xs (λ y. P y ⊎ Q y) → IsExactly xs (λ y. Q y ⊎ P y)
turned P Q xs e = (λ y h. swap y (e.0 y h), λ y h. e.1 y (back y h))
  where
    swap : (y : _) → P y ⊎ Q y → Q y ⊎ P y
    swap y (inl p) = inr p
    swap y (inr q) = inl q

    back : (y : _) → Q y ⊎ P y → P y ⊎ Q y
    back y (inl q) = inr q
    back y (inr p) = inl p

pub if-ok : {A E : Type 0} (P Q : A → Type 0) (r : Result A E) → ((a : A) → P a → Q a) → IfOk r P → IfOk r Q
if-ok P Q (Ok a) f h = f a h
if-ok P Q (Err e) f h = tt
