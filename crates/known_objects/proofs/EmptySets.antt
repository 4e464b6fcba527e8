-- Sets without an object.
use Rattle.std.proofs.Common.{◌≡◌, ◌∙◌, ℕ, zero, suc, List, [], Contains, length, replicate, slice_get, Some, refl, sym, ap, subst}
use Rattle.std.proofs.lemmas.Option.{same_Some}
use Rattle.block_flows.specs.TupleFlows.Moved.{AreObjects}
use Rattle.c_objects.specs.Objects.{Object}
use Rattle.least_set.proofs.Growing.{nothing}
use Rattle.known_objects.specs.FollowedSets.{HaveNone}

abbrev empties : ℕ → List (List Object)
empties n = replicate n []

-- what they are
pub count-none : (n : ℕ) (sets : List (List Object)) → sets ≡ replicate n [] → length sets ≡ n
count-none n sets e = ap length e ∙ by n
  where
    by : (n : ℕ) → length (empties n) ≡ n
    by zero = refl
    by (suc n) = ap suc (by n)

pub have-none : (n : ℕ) (sets : List (List Object)) → sets ≡ replicate n [] → HaveNone sets
have-none n sets e k os at = by n k (ap (λ l. slice_get l k) (sym e) ∙ at)
  where
    by : (n k : ℕ) → slice_get (empties n) k ≡ Some os → os ≡ []
    by zero k h = cc
    by (suc n) zero h = sym (same_Some [] os h)
    by (suc n) (suc k) h = by n k h

pub plain-none : (depth : ℕ) (sets : List (List Object)) → HaveNone sets → (n : ℕ) (os : List Object) → slice_get sets n ≡ Some os → AreObjects depth os
plain-none depth sets none n os at o m = absurd (nothing o (subst (λ l. Contains l o) (none n os at) m))
