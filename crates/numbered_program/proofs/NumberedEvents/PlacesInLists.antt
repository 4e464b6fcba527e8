-- The first item of a list that passes a test, by its place.
use Rattle.std.proofs.Common.{◌≡◌, ◌∙◌, refl, sym, ap, arith, ℕ, zero, suc, ◌+◌, Bool, true, false, cond, List, [], ◌∷◌, map, Option, None, Some, Contains, option_and_then, option_map, position, slice_get}
use Rattle.std.specs.List.{position_from}
use Rattle.std.proofs.lemmas.Iterator.Adapters.{position_from-zero}
use Rattle.std.proofs.lemmas.Option.{none-some, slice_get-map}
use Rattle.least_set.proofs.Growing.{at_place}
use Rattle.path_model.specs.CheckerModel.Choices.{first_some}
use Rattle.type_rules.specs.Options.{or_else}

module _ {X : Type 0} (p : X → Bool) where
  -- where the list begins at this number
  first_from : (get : ℕ → Option X) (i : ℕ) (xs : List X) → ((j k : ℕ) → k ≡ i + j → get k ≡ slice_get xs j)
      → first_some (λ x. cond (p x) (Some x) None) xs ≡ option_and_then get (position_from p i xs)
  first_from get i [] h = refl
  first_from get i (x ∷ xs) h = by (p x) (first_from get (i + 1) xs (λ j k e. h (suc j) k (omega (arith, e))))
    where
      by : (b : Bool) → first_some (λ y. cond (p y) (Some y) None) xs ≡ option_and_then get (position_from p (i + 1) xs)
          → or_else (cond b (Some x) None) (first_some (λ y. cond (p y) (Some y) None) xs) ≡ option_and_then get (cond b (Some i) (position_from p (i + 1) xs))
      by true rest = sym (h 0 i (omega arith))
      by false rest = rest

  -- the first that passes stands at the place of the first that passes
  pub first_at_place : (xs : List X) → first_some (λ x. cond (p x) (Some x) None) xs ≡ option_and_then (slice_get xs) (position p xs)
  first_at_place xs =
      first_from (slice_get xs) 0 xs (λ j k e. let same : k ≡ j = omega (arith, e) in ap (slice_get xs) same)
      ∙ ap (option_and_then (slice_get xs)) (sym (position_from-zero p xs))

module _ {X Y : Type 0} (f : X → Y) where
  mapped_from : (p : Y → Bool) (i : ℕ) (xs : List X) → position_from p i (map f xs) ≡ position_from (λ x. p (f x)) i xs
  mapped_from p i [] = refl
  mapped_from p i (x ∷ xs) = ap (cond (p (f x)) (Some i)) (mapped_from p (i + 1) xs)

  -- the place of the first that passes, by what it becomes
  pub position_mapped : (p : Y → Bool) (xs : List X) → position p (map f xs) ≡ position (λ x. p (f x)) xs
  position_mapped p xs = position_from-zero p (map f xs) ∙ mapped_from p 0 xs ∙ sym (position_from-zero (λ x. p (f x)) xs)

  -- what stands at a place, if that is one
  pub at_mapped : (xs : List X) (z : Option ℕ) → option_and_then (slice_get (map f xs)) z ≡ option_map f (option_and_then (slice_get xs) z)
  at_mapped xs None = refl
  at_mapped xs (Some i) = slice_get-map f xs i

pub found_at : {X : Type 0} (xs : List X) (z : Option ℕ) (x : X) → option_and_then (slice_get xs) z ≡ Some x → Contains xs x
found_at xs None x e = absurd (none-some x e)
found_at xs (Some i) x e = at_place xs i x e
