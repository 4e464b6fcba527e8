-- Bits that are set, one at a time.
use Rattle.std.proofs.Common.{◌≡◌, ℕ, ◌+◌, ◌*◌, ◌/◌, ◌%◌, ◌^◌, ◌<◌, ◌≤◌, zero, suc, arith, true, ◌&&◌, ◌||◌, nat_eq, List, [], ◌∷◌, ◌++◌, length, get_or, set, take, drop, take_all, replicate, if◌then◌else◌, Result, Ok, Err, is_ok, OnOk, bit_or, w64, Some, Vec, slice_get, refl, sym, ap, ◌∙◌, subst, inl, inr, eq-eqb, ne_eqb, get_or-set_same, get_or-set_other}
use Rattle.std.specs.Int.{bit_at}
use Rattle.std.proofs.lemmas.Bool.{cases_eq}
use Rattle.std.proofs.lemmas.List.{take-append-le}
use Rattle.std.proofs.lemmas.Nat.Bits.{bit_at_set_same, bit_at_set_other}
use Rattle.entry_log.specs.Bits.{is_set, is_set_in, words_of}

-- the word with one more bit
abbrev with_bit : List ℕ → ℕ → ℕ
with_bit words bit = bit_or (get_or words (bit / 64) 0) (1 * 2 ^ (bit % 64) % 2 ^ 64)

pub set_adds_the_bit : (words : List ℕ) (bit : ℕ) → bit / 64 < length words → (b : ℕ)
    → is_set (set words (bit / 64) (bit_or (get_or words (bit / 64) 0) (1 * 2 ^ (bit % 64) % 2 ^ 64))) b ≡ nat_eq b bit || is_set words b
set_adds_the_bit words bit h b = elim (cases_eq b bit) [
  | inl e ↦ subst (λ b. is_set (set words (bit / 64) (with_bit words bit)) b ≡ nat_eq b bit || is_set words b) (sym e) (here ∙ sym (ap (λ t. t || is_set words bit) (eq-eqb bit bit refl)))
  | inr n ↦ elsewhere n ∙ sym (ap (λ t. t || is_set words b) (ne_eqb b bit n))
]
  where
    here : is_set (set words (bit / 64) (with_bit words bit)) bit ≡ true
    here = ap (λ w. nat_eq (bit_at w (bit % 64)) 1) (get_or-set_same words (bit / 64) (with_bit words bit) 0 h)
        ∙ ap (λ n. nat_eq n 1) (bit_at_set_same w64 (get_or words (bit / 64) 0) (bit % 64) (omega arith))

    elsewhere : (b ≡ bit → ⊥) → is_set (set words (bit / 64) (with_bit words bit)) b ≡ is_set words b
    elsewhere n = elim (cases_eq (b / 64) (bit / 64)) [
      | inl e ↦ let other : b % 64 ≡ bit % 64 → ⊥ = λ k. n (omega (arith, e, k)) in
          ap (λ w. nat_eq (bit_at w (b % 64)) 1) (ap (λ k. get_or (set words (bit / 64) (with_bit words bit)) k 0) e ∙ get_or-set_same words (bit / 64) (with_bit words bit) 0 h)
          ∙ ap (λ n. nat_eq n 1) (bit_at_set_other w64 (get_or words (bit / 64) 0) (bit % 64) (omega arith) (b % 64) other)
          ∙ ap (λ k. nat_eq (bit_at (get_or words k 0) (b % 64)) 1) (sym e)
      | inr m ↦ ap (λ w. nat_eq (bit_at w (b % 64)) 1) (get_or-set_other words (bit / 64) (b / 64) (with_bit words bit) 0 m)
    ]

-- zeros behind a row are no bits
zeros_behind : (words : List ℕ) (n i : ℕ) → get_or (words ++ replicate n 0) i 0 ≡ get_or words i 0
zeros_behind [] zero i = refl
zeros_behind [] (suc n) zero = refl
zeros_behind [] (suc n) (suc i) = zeros_behind [] n i
zeros_behind (x ∷ xs) n zero = refl
zeros_behind (x ∷ xs) n (suc i) = zeros_behind xs n i

-- a row that was made wider, or wasn't, has the same bits
pub resized_alike : {T E : Type 0} (r : Result T E) (words new : List ℕ) (n m : ℕ) → length words ≤ n → new ≡ (if is_ok r then take n words ++ replicate m 0 else words) → (b : ℕ) → is_set new b ≡ is_set words b
resized_alike (Err x) words new n m h e b = ap (λ l. is_set l b) e
resized_alike (Ok x) words new n m h e b = ap (λ l. is_set l b) (e ∙ ap (λ l. l ++ replicate m 0) (take_all n words h)) ∙ ap (λ w. nat_eq (bit_at w (b % 64)) 1) (zeros_behind words m (b / 64))

pub resized_wide : {T E : Type 0} (r : Result T E) (len n old b : ℕ) → len ≡ (if is_ok r then n else old) → b < n → OnOk r (b < len)
resized_wide (Err x) len n old b e h = tt
resized_wide (Ok x) len n old b e h = subst (λ m. b < m) (sym e) h

module _ {X : Type 0} where
  -- a slice that was lent and has its length is what the list then holds
  pub refilled : (n : ℕ) (xs old : List X) → length xs ≡ n → take n (xs ++ drop (length xs) old) ≡ xs
  refilled n xs old e = take-append-le n xs (drop (length xs) old) (omega (arith, e)) ∙ take_all n xs (omega (arith, e))

  pub at_set_same : (xs : List X) (i : ℕ) (y : X) → i < length xs → slice_get (set xs i y) i ≡ Some y
  at_set_same [] i y h = absurd (omega arith)
  at_set_same (x ∷ xs) zero y h = refl
  at_set_same (x ∷ xs) (suc i) y h = at_set_same xs i y (omega arith)

  pub at_set_other : (xs : List X) (i j : ℕ) (y : X) → (j ≡ i → ⊥) → slice_get (set xs i y) j ≡ slice_get xs j
  at_set_other [] i j y h = refl
  at_set_other (x ∷ xs) zero zero y h = absurd (h refl)
  at_set_other (x ∷ xs) zero (suc j) y h = refl
  at_set_other (x ∷ xs) (suc i) zero y h = refl
  at_set_other (x ∷ xs) (suc i) (suc j) y h = at_set_other xs i j y (λ e. h (ap suc e))

module _ {A : Type 0} where
  -- a bit of a row that is behind the last has no words
  pub row_within : (rows : List (Vec ℕ A)) (row n : ℕ) → n < length (words_of (slice_get rows row)) → row < length rows
  row_within [] row n h = absurd (omega arith)
  row_within (x ∷ xs) zero n h = omega arith
  row_within (x ∷ xs) (suc row) n h = omega (arith, row_within xs row n h)

  -- a row that has one more bit, among the others
  pub set_adds_the_bit_in : (rows : List (Vec ℕ A)) (row bit : ℕ) (w : Vec ℕ A) → row < length rows
      → ((b : ℕ) → is_set w.items b ≡ nat_eq b bit || is_set (words_of (slice_get rows row)) b)
      → (r b : ℕ) → is_set_in (set rows row w) r b ≡ (nat_eq r row && nat_eq b bit) || is_set_in rows r b
  set_adds_the_bit_in rows row bit w h one r b = elim (cases_eq r row) [
    | inl e ↦ ap (λ k. is_set (words_of (slice_get (set rows row w) k)) b) e ∙ ap (λ o. is_set (words_of o) b) (at_set_same rows row w h) ∙ one b
        ∙ ap (λ k. nat_eq b bit || is_set (words_of (slice_get rows k)) b) (sym e)
        ∙ sym (ap (λ t. (t && nat_eq b bit) || is_set_in rows r b) (eq-eqb r row e))
    | inr n ↦ ap (λ o. is_set (words_of o) b) (at_set_other rows row r w n) ∙ sym (ap (λ t. (t && nat_eq b bit) || is_set_in rows r b) (ne_eqb r row n))
  ]

  -- a row with the same bits, among the others
  pub set_alike : (rows : List (Vec ℕ A)) (row : ℕ) (w : Vec ℕ A) → row < length rows
      → ((b : ℕ) → is_set w.items b ≡ is_set (words_of (slice_get rows row)) b)
      → (r b : ℕ) → is_set_in (set rows row w) r b ≡ is_set_in rows r b
  set_alike rows row w h one r b = elim (cases_eq r row) [
    | inl e ↦ ap (λ k. is_set (words_of (slice_get (set rows row w) k)) b) e ∙ ap (λ o. is_set (words_of o) b) (at_set_same rows row w h) ∙ one b
        ∙ ap (λ k. is_set (words_of (slice_get rows k)) b) (sym e)
    | inr n ↦ ap (λ o. is_set (words_of o) b) (at_set_other rows row r w n)
  ]

  -- an empty row has no bits
  pub one_more_row : (rows : List (Vec ℕ A)) (w : Vec ℕ A) → w.items ≡ [] → (r b : ℕ) → is_set_in (rows ++ w ∷ []) r b ≡ is_set_in rows r b
  one_more_row [] w e zero b = ap (λ l. is_set l b) e
  one_more_row [] w e (suc r) b = refl
  one_more_row (x ∷ xs) w e zero b = refl
  one_more_row (x ∷ xs) w e (suc r) b = one_more_row xs w e r b
