-- The items of a list with their numbers, from 1 on, and lists that are gone through.
use Rattle.std.proofs.Common.{◌≡◌, ◌∙◌, sym, ap, refl, ℕ, zero, suc, ◌+◌, ◌<◌, ◌≤◌, List, [], ◌∷◌, ◌++◌, length, get_or, take, Contains, Option, None, Some, slice_get, arith, append-nil}
use Rattle.std.specs.List.{enumerate_from, filter_map, cons_option}
use Rattle.std.proofs.lemmas.List.{take_more, take_all}
use Rattle.std.proofs.lemmas.List.Elements.{filter_map-append}
use Rattle.std.proofs.lemmas.List.FromFn.{length-enumerate_from, get_or-enumerate_from}
use Rattle.std.proofs.lemmas.Option.{slice_get-get_or, slice_get_within, get_or_from_slice_get}
use Rattle.numbered_program.proofs.NumberedTuples.Numbers.{item_at, no_item}
use Rattle.row_flows.specs.Numbers.{item_numbered}

module _ {A : Type 0} (xs : List A) where
  -- the place of a number's item
  pub placed : (n : ℕ) (x : A) → item_numbered xs n ≡ Some x → (i : ℕ) × (n ≡ i + 1) × (slice_get xs i ≡ Some x)
  placed zero x e = absurd (no_item xs x e)
  placed (suc i) x e = let k : suc i ≡ i + 1 = omega arith in (i, k, sym (item_at xs (suc i) i k) ∙ e)

  -- an item stands beside its number
  pub numbered : (p : ℕ × A) → Contains (enumerate_from 1 xs) p → item_numbered xs p.0 ≡ Some p.1
  numbered p w =
      let within : w.0 < length xs = omega (arith, w.1, length-enumerate_from 1 xs) in
      let same = sym (get_or-enumerate_from 1 xs w.0 p within) ∙ w.2 in
      let number : 1 + w.0 ≡ p.0 = ap (λ (z : ℕ × A). z.0) same in
      item_at xs p.0 w.0 (omega (arith, number)) ∙ slice_get-get_or xs w.0 p.1 within ∙ ap (λ (z : ℕ × A). Some z.1) same

  -- and each does
  pub enumerated : (n : ℕ) (x : A) → item_numbered xs n ≡ Some x → Contains (enumerate_from 1 xs) (n, x)
  enumerated n x e =
      let p = placed n x e in
      let within : p.0 < length xs = slice_get_within xs p.0 x p.2 in
      let number : 1 + p.0 ≡ n = omega (arith, p.1) in
      let value : get_or xs p.0 x ≡ x = get_or_from_slice_get xs p.0 x x p.2 in
      (p.0, omega (arith, within, length-enumerate_from 1 xs), get_or-enumerate_from 1 xs p.0 (n, x) within ∙ (λ i. (number i, value i)))

  -- the item at a place
  pub place_within : (i : ℕ) → i < length xs → i < length (enumerate_from 1 xs)
  place_within i h = omega (arith, h, length-enumerate_from 1 xs)

  pub item_there : (i : ℕ) (x : A) → i < length xs → x ≡ get_or xs i x → (i + 1, x) ≡ get_or (enumerate_from 1 xs) i (i + 1, x)
  item_there i x h e =
      let number : i + 1 ≡ 1 + i = omega arith in
      (λ j. (number j, e j)) ∙ sym (get_or-enumerate_from 1 xs i (i + 1, x) h)

  -- all were gone through
  pub all_numbered : (i : ℕ) → length xs ≤ i → take i (enumerate_from 1 xs) ≡ enumerate_from 1 xs
  all_numbered i h = take_all i (enumerate_from 1 xs) (omega (arith, h, length-enumerate_from 1 xs))

-- one more of a list was gone through, of which some give a value
module _ {A B : Type 0} (F : A → Option B) (xs : List A) (i : ℕ) (x : A) (old : List B) (within : i < length xs) (is : x ≡ get_or xs i x) (before : old ≡ filter_map F (take i xs)) where
  more : filter_map F (take (i + 1) xs) ≡ old ++ cons_option (F x) []
  more =
      ap (filter_map F) (take_more xs i x within)
      ∙ filter_map-append F (take i xs) (get_or xs i x ∷ [])
      ∙ ap (λ z. z ++ cons_option (F (get_or xs i x)) []) (sym before)
      ∙ ap (λ y. old ++ cons_option (F y) []) (sym is)

  pub given_more : (b : B) (new : List B) → F x ≡ Some b → new ≡ old ++ b ∷ [] → new ≡ filter_map F (take (i + 1) xs)
  given_more b new e pushed = pushed ∙ sym (more ∙ ap (λ z. old ++ cons_option z []) e)

  pub given_past : F x ≡ None → old ≡ filter_map F (take (i + 1) xs)
  given_past e = sym (more ∙ ap (λ z. old ++ cons_option z []) e ∙ append-nil old)
