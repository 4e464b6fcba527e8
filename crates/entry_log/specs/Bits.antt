-- Rows of bits.
use Rattle.std.specs.Prelude.{◌≡◌, ℕ, zero, suc, ◌/◌, ◌%◌, ◌≤◌, Bool, false, ◌&&◌, ◌||◌, List, [], ◌∷◌, Option, Some, None, Vec, nat_eq, slice_get, slice_index}
use Rattle.std.specs.Int.{bit_at}

-- A bit of a row of words. Behind its last word a row has no bits.
abbrev pub is_set : List ℕ → ℕ → Bool
is_set words bit = nat_eq (bit_at (slice_index words (bit / 64)) (bit % 64)) 1

abbrev pub words_of : {A : Type 0} → Option (Vec ℕ A) → List ℕ
words_of None = []
words_of (Some v) = v.items

-- A bit of one of several rows. Behind the last one there are no bits.
abbrev pub is_set_in : {A : Type 0} → List (Vec ℕ A) → ℕ → ℕ → Bool
is_set_in rows row bit = is_set (words_of (slice_get rows row)) bit

-- One of the rows from the one with the number n on passes, and so does its key.
abbrev pub passes : {K : Type 0} → (K → Bool) → (ℕ → Bool) → ℕ → List K → Bool
passes key row n [] = false
passes key row n (k ∷ ks) = (key k && row n) || passes key row (suc n) ks

-- A bit is set in the row of a key that is equal to k.
abbrev pub has_bit : {K A : Type 0} → (K → K → Bool) → List K → List (Vec ℕ A) → K → ℕ → Bool
has_bit eq keys rows k bit = passes (eq k) (λ row. is_set_in rows row bit) zero keys

-- Behind so many rows there are no bits.
abbrev pub NoneBehind : {A : Type 0} → ℕ → List (Vec ℕ A) → Type 0
NoneBehind count rows = (row bit : ℕ) → count ≤ row → is_set_in rows row bit ≡ false
