-- What is present, what stands in a list under a condition, and what is owned.
use Rattle.std.proofs.Common.{◌≡◌, refl, sym, nat_eq, ◌-◌, Bool, true, false, true≢false, cond, ℕ, List, [], ◌∷◌, Option, None, Some, slice_get, Contains}
use Rattle.std.specs.Option.{option_map_or}
use Rattle.least_set.proofs.Growing.{nothing}
use Rattle.row_flows.proofs.Lists.{the_one}
use Rattle.row_flows.specs.Numbers.{is_own}

pub present : {A : Type 0} (o : Option A) → (o ≡ None → ⊥) → (x : A) × (o ≡ Some x)
present None missing = absurd (missing refl)
present (Some x) missing = (x, refl)

-- a list that has one value only under a condition
pub of_condition : {A : Type 0} (b : Bool) (x y : A) → Contains (cond b (x ∷ []) []) y → (b ≡ true) × (x ≡ y)
of_condition true x y h = (refl, the_one x y h)
of_condition false x y h = absurd (nothing y h)

-- what is owned has a number, which isn't 0
pub owned : (own : List Bool) (n : ℕ) → is_own own n ≡ true → nat_eq n 0 ≡ false
owned own n h = by (nat_eq n 0) (slice_get own (n - 1)) h
  where
    by : (b : Bool) (o : Option Bool) → option_map_or (λ (c : Bool). c) (cond b None o) false ≡ true → b ≡ false
    by true o h = absurd (true≢false (sym h))
    by false o h = refl
