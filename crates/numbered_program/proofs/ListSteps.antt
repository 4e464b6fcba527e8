-- Lists that are made one item after the other.
use Rattle.std.proofs.Common.{◌≡◌, ◌⊎◌, inl, inr, ℕ, zero, suc, ◌+◌, ◌<◌, ◌≤◌, List, [], ◌∷◌, ◌++◌, length, Some, None, slice_get, refl, sym, ap, ◌∙◌, arith}
use Rattle.std.proofs.lemmas.List.{length-append}
use Rattle.std.proofs.lemmas.Option.{same_Some}

module _ {A : Type 0} where
  pub not_missing : (xs : List A) (n : ℕ) → n < length xs → slice_get xs n ≡ None → ⊥
  not_missing [] n h e = omega (arith, h)
  not_missing (x ∷ xs) zero h e = cc
  not_missing (x ∷ xs) (suc n) h e = not_missing xs n (omega (arith, h)) e

  pub past_end : (xs : List A) (n : ℕ) → slice_get xs n ≡ None → length xs ≤ n
  past_end [] n e = let h : 0 ≤ n = omega arith in h
  past_end (x ∷ xs) zero e = cc
  past_end (x ∷ xs) (suc n) e = let h : length xs ≤ n = past_end xs n e in omega (arith, h)

  -- an item of a list that has one more
  pushed_item : (old : List A) (y x : A) (n : ℕ) → slice_get (old ++ y ∷ []) n ≡ Some x → (slice_get old n ≡ Some x) ⊎ ((n ≡ length old) × (y ≡ x))
  pushed_item [] y x zero e = inr (refl, same_Some y x e)
  pushed_item [] y x (suc n) e = cc
  pushed_item (z ∷ zs) y x zero e = inl e
  pushed_item (z ∷ zs) y x (suc n) e = elim (pushed_item zs y x n e) [ inl h ↦ inl h | inr h ↦ inr (omega (arith, h.0), h.1) ]

  pub item_of_more : (old new : List A) (y x : A) (n : ℕ) → new ≡ old ++ y ∷ [] → slice_get new n ≡ Some x → (slice_get old n ≡ Some x) ⊎ ((n ≡ length old) × (y ≡ x))
  item_of_more old new y x n more e = pushed_item old y x n (ap (λ (l : List A). slice_get l n) (sym more) ∙ e)

  pub length_of_more : (old new : List A) (y : A) (n : ℕ) → new ≡ old ++ y ∷ [] → length old ≡ n → length new ≡ n + 1
  length_of_more old new y n more e = omega (arith, ap length more, length-append old (y ∷ []), e)
