-- Numbers and items lead to each other.
use Rattle.std.proofs.Common.{◌≡◌, ℕ, zero, suc, ◌+◌, ◌-◌, ◌<◌, ◌≤◌, List, [], ◌∷◌, length, ◌||◌, Bool, true, false, cond, Option, None, Some, refl, sym, ap, subst, ◌∙◌, arith, true≢false, slice_get, get_or, position}
use Rattle.std.specs.Prelude.{◌↔◌, nat_eq, nat_lt}
use Rattle.std.specs.List.{list_any, position_or_len}
use Rattle.std.specs.Option.{option_map_or}
use Rattle.std.proofs.lemmas.Bool.Decides.{nat_tests}
use Rattle.std.proofs.lemmas.List.Quantifiers.{position-Some}
use Rattle.std.proofs.lemmas.List.Sums.{position_or_len_is}
use Rattle.std.proofs.lemmas.Option.{none-some, slice_get-get_or, slice_get_within, get_or_from_slice_get}
use Rattle.least_set.specs.Logs.{IsOnce}
use Rattle.numbered_program.specs.NumberedTuples.Numbers.{number_by}
use Rattle.row_flows.specs.Numbers.{item_numbered}

pub not_zero : (n : ℕ) → 0 < n → nat_eq n 0 ≡ false
not_zero n h = grind (arith, nat_tests)

is_below : (i n : ℕ) → i < n → nat_lt i n ≡ true
is_below i n h = grind (arith, nat_tests)

neither : (a b : Bool) → (a || b) ≡ false → (a ≡ false) × (b ≡ false)
neither false b h = (refl, h)
neither true b h = absurd (true≢false h)

module _ {A : Type 0} (xs : List A) where
  -- the item of a number that isn't 0, by its place
  pub item_at : (n i : ℕ) → n ≡ i + 1 → item_numbered xs n ≡ slice_get xs i
  item_at n i e =
      let h : 0 < n = omega arith in
      let k : n - 1 ≡ i = omega arith in
      ap (λ b. cond b None (slice_get xs (n - 1))) (not_zero n h) ∙ ap (slice_get xs) k

  pub no_item : (x : A) → item_numbered xs 0 ≡ Some x → ⊥
  no_item x e = none-some x e

module _ {A : Type 0} (eq : A → A → Bool) (same : (x y : A) → eq x y ≡ true → x ≡ y) (itself : (x : A) → eq x x ≡ true) (xs : List A) where
  placed : (i : ℕ) (x : A) → IsOnce xs → slice_get xs i ≡ Some x → position (eq x) xs ≡ Some i
  placed i x once e = ap (λ n. cond (nat_lt n (length xs)) (Some n) None) first ∙ ap (λ b. cond b (Some i) None) (is_below i (length xs) within)
    where
      within : i < length xs
      within = slice_get_within xs i x e

      apart : (k : ℕ) → k < i → eq x (get_or xs k x) ≡ false
      apart k h = by (eq x (get_or xs k x)) refl
        where
          by : (b : Bool) → eq x (get_or xs k x) ≡ b → b ≡ false
          by false e = refl
          by true f = absurd (omega (arith, once k i x (slice_get-get_or xs k x (omega (arith, within)) ∙ ap Some (sym (same x (get_or xs k x) f))) e))

      first : position_or_len (eq x) xs ≡ i
      first = position_or_len_is (eq x) xs i x (omega (arith, within)) apart (λ w. ap (eq x) (get_or_from_slice_get xs i x x e) ∙ itself x)

  -- AN ITEM HAS A NUMBER exactly where the number has the item
  pub number_exact : (n : ℕ) (x : A) → IsOnce xs → 0 < n → (number_by eq xs x ≡ n) ↔ (item_numbered xs n ≡ Some x)
  number_exact n x once h = (there (position (eq x) xs) refl, back)
    where
      there : (p : Option ℕ) → position (eq x) xs ≡ p → option_map_or (λ i. i + 1) p 0 ≡ n → item_numbered xs n ≡ Some x
      there None e f = let none : 0 ≡ n = f in absurd (omega (arith, none, h))
      there (Some i) e f =
          let found = position-Some (eq x) xs i x e in
          item_at xs n i (sym f) ∙ slice_get-get_or xs i x found.0 ∙ ap Some (sym (same x (get_or xs i x) found.1))

      back : item_numbered xs n ≡ Some x → number_by eq xs x ≡ n
      back e =
          let k : n ≡ (n - 1) + 1 = omega (arith, h) in
          ap (λ p. option_map_or (λ i. i + 1) p 0) (placed (n - 1) x once (sym (item_at xs n (n - 1) k) ∙ e)) ∙ sym k

-- an item that isn't found has the number 0
pub no_number : {A : Type 0} (eq : A → A → Bool) (xs : List A) (x : A) → list_any (eq x) xs ≡ false → number_by eq xs x ≡ 0
no_number {A = A} eq xs x h = by (position (eq x) xs) refl
  where
    missing : (ys : List A) (i : ℕ) → list_any (eq x) ys ≡ false → i < length ys → eq x (get_or ys i x) ≡ true → ⊥
    missing [] i e k f = absurd (omega arith)
    missing (y ∷ ys) zero e k f = true≢false (sym f ∙ (neither (eq x y) (list_any (eq x) ys) e).0)
    missing (y ∷ ys) (suc i) e k f = missing ys i (neither (eq x y) (list_any (eq x) ys) e).1 (omega arith) f

    by : (p : Option ℕ) → position (eq x) xs ≡ p → option_map_or (λ i. i + 1) p 0 ≡ 0
    by None e = refl
    by (Some i) e = let found = position-Some (eq x) xs i x e in absurd (missing xs i h found.0 found.1)
