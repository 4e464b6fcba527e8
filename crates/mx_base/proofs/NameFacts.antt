-- Names that are kept as values of some type, by a function f to their texts.
use Rattle.std.proofs.Common.{◌≡◌, ℕ, ◌+◌, ◌<◌, ◌≤◌, Bool, true, false, cond, not, ltb, List, [], ◌∷◌, ◌++◌, length, map, if◌then◌else◌, Some, None, ◌||◌, refl, ap, sym, ◌∙◌, length-append, arith}
use Rattle.std.specs.List.{list_any, position, position_or_len, IsDistinct, AllByRecursion}
use Rattle.std.specs.Str.{bytes_eq}
use Rattle.std.proofs.lemmas.Bool.{false≢true}
use Rattle.mx_base.specs.Names.{number_of, names_after, HasNoRepeats}

-- the first place is below the length where some element passes, and is the length where none does
pub some_passes : {X : Type 0} (p : X → Bool) (xs : List X) → list_any p xs ≡ true → position_or_len p xs < length xs
some_passes p [] h = absurd (false≢true h)
some_passes p (x ∷ xs) h = by (p x) refl h (λ k. some_passes p xs k)
  where
    by : (b : Bool) → p x ≡ b → (b || list_any p xs) ≡ true → (list_any p xs ≡ true → position_or_len p xs < length xs) → position_or_len p (x ∷ xs) < length (x ∷ xs)
    by true e k rest = rw e (omega arith)
    by false e k rest = rw e (omega (arith, rest k))

pub none_passes : {X : Type 0} (p : X → Bool) (xs : List X) → list_any p xs ≡ false → position_or_len p xs ≡ length xs
none_passes p [] _ = refl
none_passes p (x ∷ xs) h = by (p x) refl h (λ k. none_passes p xs k)
  where
    by : (b : Bool) → p x ≡ b → (b || list_any p xs) ≡ false → (list_any p xs ≡ false → position_or_len p xs ≡ length xs) → position_or_len p (x ∷ xs) ≡ length (x ∷ xs)
    by true e k rest = absurd (false≢true (sym k))
    by false e k rest = rw e (omega (arith, rest k))

module _ {X : Type 0} (f : X → List ℕ) where
  number_of-map : (t : List ℕ) (xs : List X) → position_or_len (λ x. bytes_eq t (f x)) xs ≡ number_of (map f xs) t
  number_of-map t [] = refl
  number_of-map t (x ∷ xs) = ap (λ n. cond (not (bytes_eq t (f x))) (1 + n) 0) (number_of-map t xs)

  pub list_any-map : (t : List ℕ) (xs : List X) → list_any (λ x. bytes_eq t (f x)) xs ≡ list_any (bytes_eq t) (map f xs)
  list_any-map t [] = refl
  list_any-map t (x ∷ xs) = cc (list_any-map t xs)

  pub length-names : (xs : List X) → length (map f xs) ≡ length xs
  length-names [] = refl
  length-names (x ∷ xs) = omega (arith, length-names xs)

  map-push : (xs : List X) (v : X) → map f (xs ++ v ∷ []) ≡ map f xs ++ f v ∷ []
  map-push [] v = refl
  map-push (x ∷ xs) v = ap (λ l. f x ∷ l) (map-push xs v)

  -- a place that `position` gives is the number
  pub number_at : (t : List ℕ) (xs : List X) (i : ℕ) → position (λ x. bytes_eq t (f x)) xs ≡ Some i → i ≡ number_of (map f xs) t
  number_at t xs i h = by (ltb (position_or_len (λ x. bytes_eq t (f x)) xs) (length xs)) h
    where
      by : (b : Bool) → cond b (Some (position_or_len (λ x. bytes_eq t (f x)) xs)) None ≡ Some i → i ≡ number_of (map f xs) t
      by true e = let same : position_or_len (λ x. bytes_eq t (f x)) xs ≡ i = cc in sym same ∙ number_of-map t xs
      by false e = cc

  -- where there is none, the number is the next one
  pub number_next : (t : List ℕ) (xs : List X) → list_any (λ x. bytes_eq t (f x)) xs ≡ false → length xs ≡ number_of (map f xs) t
  number_next t xs none = sym (none_passes (λ x. bytes_eq t (f x)) xs none) ∙ number_of-map t xs

  -- what an insert leaves
  pub after_insert : (t : List ℕ) (xs : List X) (v : X) → f v ≡ t → map f (if list_any (λ x. bytes_eq (f v) (f x)) xs then xs else (xs ++ v ∷ [])) ≡ names_after (map f xs) t
  after_insert t xs v e =
      ap (λ c. map f (cond c xs (xs ++ v ∷ []))) (list_any-map (f v) xs ∙ ap (λ s. list_any (bytes_eq s) (map f xs)) e)
      ∙ by (list_any (bytes_eq t) (map f xs))
    where
      by : (b : Bool) → map f (cond b xs (xs ++ v ∷ [])) ≡ cond b (map f xs) (map f xs ++ t ∷ [])
      by true = refl
      by false = map-push xs v ∙ ap (λ s. map f xs ++ s ∷ []) e

  -- at most one more
  pub length_after : (b : Bool) (xs : List X) (v : X) (n : ℕ) → length xs + 1 ≤ n → length (cond b xs (xs ++ v ∷ [])) ≤ n
  length_after true xs v n h = omega arith
  length_after false xs v n h = omega (arith, length-append xs (v ∷ []))

  -- a text that is there adds nothing
  pub known_text : (t : List ℕ) (xs : List X) → list_any (λ x. bytes_eq t (f x)) xs ≡ true → map f xs ≡ names_after (map f xs) t
  known_text t xs h = ap (λ c. cond c (map f xs) (map f xs ++ t ∷ [])) (sym h ∙ list_any-map t xs)

  pub no_repeats : (xs : List X) → IsDistinct (λ x y. bytes_eq (f x) (f y)) xs → HasNoRepeats (map f xs)
  unfolding IsDistinct
  no_repeats [] h = tt
  no_repeats (x ∷ xs) h = (each xs h.0, no_repeats xs h.1)
    where
      each : (ys : List X) → AllByRecursion (λ y. bytes_eq (f x) (f y) ≡ false) ys → AllByRecursion (λ y. bytes_eq (f x) y ≡ false) (map f ys)
      each [] _ = tt
      each (y ∷ ys) k = (k.0, each ys k.1)
