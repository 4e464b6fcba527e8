-- What was gathered from nothing, and where there is no function.
use Rattle.std.proofs.Common.{◌≡◌, ◌⊎◌, inl, inr, ℕ, List, [], Contains, None, Some, slice_get, ◌∙◌, sym, subst, Result, Ok, Err, IfOk}
use Rattle.least_set.specs.Logs.{IsExactly, Adds}
use Rattle.least_set.specs.OnePremise.{Follows, FollowsBase, FollowsOne, Least, LeastBase, LeastOne}
use Rattle.least_set.proofs.Growing.{nothing, either, adds_both}
use Rattle.relevant.specs.RelevantObjects.Links.{LinksIn, LinksFrom}
use Rattle.path_model.specs.CheckerGraphs.Members.{Member}
use Rattle.relevant.specs.declared.relevant_objects.rows.FunctionRow.{FunctionRow}

-- two after each other, from nothing
pub both-gathered : {M : Type 0} (P Q : M → Type 0) (mid new : List M) → Adds P [] mid → Adds Q mid new → IsExactly new (λ y. P y ⊎ Q y)
both-gathered P Q mid new v w = (
  λ y h. elim (either w y h) [ inl o ↦ elim (either v y o) [ inl n ↦ absurd (nothing y n) | inr p ↦ inl p ] | inr q ↦ inr q ],
  λ y h. let all = adds_both {R = λ z. P z ⊎ Q z} v w (λ z s. s) (λ z p. inl p) (λ z q. inr q) in all.added y h,
)

-- the function with the number of the object
pub in-row : (depth : ℕ) (rows : List FunctionRow) (row : FunctionRow) (x : Member) (list : List Member) → slice_get rows x.0 ≡ Some row → IsExactly list (LinksIn depth row x) → IsExactly list (LinksFrom depth rows x)
in-row depth rows row x list at is = (
  λ y h. (row, at, is.0 y h),
  λ y h. is.1 y (here y h.0 h.1 h.2),
)
  where
    one : (r : FunctionRow) → Some r ≡ Some row → r ≡ row
    one r e = cc

    here : (y : Member) (r : FunctionRow) → slice_get rows x.0 ≡ Some r → LinksIn depth r x y → LinksIn depth row x y
    here y r e l = subst (λ (z : FunctionRow). LinksIn depth z x y) (one r (sym e ∙ at)) l

pub no-row : (depth : ℕ) (rows : List FunctionRow) (x : Member) → slice_get rows x.0 ≡ None → IsExactly [] (LinksFrom depth rows x)
no-row depth rows x none = (λ y h. absurd (nothing y h), λ y h. let e : None ≡ Some h.0 = sym none ∙ h.1 in cc)

-- the log of the least set
pub least-log : {M : Type 0} (Base : M → Type 0) (Goes : M → M → Type 0) (log : List M) → ((c : M) → Follows Base Goes log c → Contains log c) → ((c : M) → Contains log c → Least Base Goes c) → IsExactly log (Least Base Goes)
least-log Base Goes log closed only = (only, λ c l. listed c l)
  where
    listed : (c : _) → Least Base Goes c → Contains log c
    listed c (LeastBase b) = closed c (FollowsBase b)
    listed c (LeastOne {a = a} l g) = closed c (FollowsOne a (listed a l) g)

pub if-ok : {A E : Type 0} (P Q : A → Type 0) (r : Result A E) → ((a : A) → P a → Q a) → IfOk r P → IfOk r Q
if-ok P Q (Ok a) f h = f a h
if-ok P Q (Err e) f h = tt

pub if-both : {A E : Type 0} (P Q R : A → Type 0) (r : Result A E) → ((a : A) → P a → Q a → R a) → IfOk r P → IfOk r Q → IfOk r R
if-both P Q R (Ok a) f g h = f a g h
if-both P Q R (Err e) f g h = tt
