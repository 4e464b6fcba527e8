-- CALLS BY FUNCTION: for each function the positions of the calls from it and into it.
use Rattle.std.specs.Prelude.{◌≡◌, ◌⊎◌, ◌<◌, ℕ, List, [], ◌∷◌, Vec, Some, nat_eq, cond, slice_get}
use Rattle.type_rules.specs.Options.{if_there}
use Rattle.least_set.specs.Logs.{IsExactly}
use Rattle.relevant.specs.declared.relevant_objects.rows.FollowedCall.{FollowedCall}

-- the list of a number; an empty one where there is none
abbrev pub at : {A : Type 0} → List (Vec ℕ A) → ℕ → List ℕ
at lists n = if_there (slice_get lists n) [] (λ v. v.items)

-- the position, if both numbers are the same
abbrev pub one_if : ℕ → ℕ → ℕ → List ℕ
one_if m n position = cond (nat_eq m n) (position ∷ []) []

-- the call comes from the function with this number, or leads into it
abbrev pub Meets : ℕ → FollowedCall → Type 0
Meets n k = (k.caller ≡ n) ⊎ (k.callee ≡ n)

-- such a call stands at the position
abbrev pub MeetsAt : List FollowedCall → ℕ → ℕ → Type 0
MeetsAt calls n position = (k : FollowedCall) × (slice_get calls position ≡ Some k) × Meets n k

-- the list of each of so many functions has exactly the positions of such calls
abbrev pub IsFiled : {A : Type 0} → List FollowedCall → ℕ → List (Vec ℕ A) → Type 0
IsFiled calls count lists = (n : ℕ) → n < count → IsExactly (at lists n) (MeetsAt calls n)
