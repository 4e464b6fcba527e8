-- Lists that are mapped, joined and gone through side by side.
use Rattle.std.proofs.Common.{◌≡◌, ◌⊎◌, inl, inr, ℕ, zero, suc, ◌<◌, List, [], ◌∷◌, ◌++◌, map, length, get_or, Contains, Option, None, Some, slice_get, refl, sym, ap, subst, arith}
use Rattle.std.specs.Prelude.{flat_map}
use Rattle.std.specs.List.{AllZip}
use Rattle.std.specs.Option.{option_map}
use Rattle.std.proofs.lemmas.List.Elements.{Contains-append_left, Contains-append_right, Contains-append_cases}
use Rattle.std.proofs.lemmas.Option.{slice_get-get_or, same_Some}
use Rattle.flow_graph.specs.CPaths.Membership.{Among}
use Rattle.least_set.proofs.Growing.{nothing}
use Rattle.relevant.proofs.LinkedObjects.Listed.{among-contains, contains-among}

-- of lists that are mapped
module _ {A B : Type 0} (f : A → B) where
  among-map : (xs : List A) (x : A) → Among x xs → Among (f x) (map f xs)
  among-map [] x h = absurd h
  among-map (y ∷ xs) x (inl e) = inl (ap f e)
  among-map (y ∷ xs) x (inr h) = inr (among-map xs x h)

  map-among : (xs : List A) (y : B) → Among y (map f xs) → (x : A) × Among x xs × (f x ≡ y)
  map-among [] y h = absurd h
  map-among (x ∷ xs) y (inl e) = (x, inl refl, sym e)
  map-among (x ∷ xs) y (inr h) = let k = map-among xs y h in (k.0, inr k.1, k.2)

  pub contains-map : (xs : List A) (x : A) → Contains xs x → Contains (map f xs) (f x)
  contains-map xs x h = among-contains (map f xs) (f x) (among-map xs x (contains-among xs x h))

  pub map-contains : (xs : List A) (y : B) → Contains (map f xs) y → (x : A) × Contains xs x × (f x ≡ y)
  map-contains xs y h = let k = map-among xs y (contains-among (map f xs) y h) in (k.0, among-contains xs k.0 k.1, k.2)

  pub of-map : (o : Option A) (y : B) → option_map f o ≡ Some y → (x : A) × (o ≡ Some x) × (f x ≡ y)
  of-map None y e = cc
  of-map (Some x) y e = (x, refl, same_Some (f x) y e)

-- of lists that are joined
module _ {A B : Type 0} (f : A → List B) where
  joined-among : (xs : List A) (x : A) (y : B) → Among x xs → Contains (f x) y → Contains (flat_map f xs) y
  joined-among [] x y h c = absurd h
  joined-among (z ∷ xs) x y (inl e) c = Contains-append_left (f z) (flat_map f xs) y (subst (λ w. Contains (f w) y) e c)
  joined-among (z ∷ xs) x y (inr h) c = Contains-append_right (f z) (flat_map f xs) y (joined-among xs x y h c)

  pub contains-joined : (xs : List A) (x : A) (y : B) → Contains xs x → Among y (f x) → Contains (flat_map f xs) y
  contains-joined xs x y h c = joined-among xs x y (contains-among xs x h) (among-contains (f x) y c)

  pub joined-contains : (xs : List A) (y : B) → Contains (flat_map f xs) y → (x : A) × Contains xs x × Among y (f x)
  joined-contains [] y h = absurd (nothing y h)
  joined-contains (z ∷ xs) y h = elim (Contains-append_cases (f z) (flat_map f xs) y h) [
    | inl c ↦ (z, among-contains (z ∷ xs) z (inl refl), contains-among (f z) y c)
    | inr c ↦ let k = joined-contains xs y c in (k.0, among-contains (z ∷ xs) k.0 (inr (contains-among xs k.0 k.1)), k.2)
  ]

-- of lists that go together one by one
module _ {A B : Type 0} (R : A → B → Type 0) where
  -- what stands at the same place
  pub zip-at : (xs : List A) (ys : List B) (n : ℕ) (x : A) (y : B) → AllZip R xs ys → slice_get xs n ≡ Some x → slice_get ys n ≡ Some y → R x y
  zip-at [] ys n x y h e k = cc
  zip-at (a ∷ xs) [] n x y h e k = absurd h
  zip-at (a ∷ xs) (b ∷ ys) zero x y h e k = subst (λ (z : A). R z y) (same_Some a x e) (subst (R a) (same_Some b y k) h.0)
  zip-at (a ∷ xs) (b ∷ ys) (suc n) x y h e k = zip-at xs ys n x y h.1 e k

  -- where the first has something, so has the second
  pub zip-there : (xs : List A) (ys : List B) (n : ℕ) (x : A) → AllZip R xs ys → slice_get xs n ≡ Some x → (y : B) × (slice_get ys n ≡ Some y)
  zip-there [] ys n x h e = cc
  zip-there (a ∷ xs) [] n x h e = absurd h
  zip-there (a ∷ xs) (b ∷ ys) zero x h e = (b, refl)
  zip-there (a ∷ xs) (b ∷ ys) (suc n) x h e = zip-there xs ys n x h.1 e

-- what stands at a place of a list
pub there : {A : Type 0} (xs : List A) (n : ℕ) → n < length xs → (x : A) × (slice_get xs n ≡ Some x)
there [] n l = absurd (omega (arith, l))
there (x ∷ xs) n l = (get_or (x ∷ xs) n x, slice_get-get_or (x ∷ xs) n x l)

-- what stands in a list with one more
pub placed : {A : Type 0} (xs : List A) (x : A) (k : ℕ) (y : A) → slice_get (xs ++ (x ∷ [])) k ≡ Some y → (slice_get xs k ≡ Some y) ⊎ ((length xs ≡ k) × (x ≡ y))
placed [] x zero y e = inr (refl, same_Some x y e)
placed [] x (suc k) y e = cc
placed (z ∷ xs) x zero y e = inl e
placed (z ∷ xs) x (suc k) y e = elim (placed xs x k y e) [ inl l ↦ inl l | inr p ↦ inr (ap suc p.0, p.1) ]

pub placed-last : {A : Type 0} (xs : List A) (x : A) → slice_get (xs ++ (x ∷ [])) (length xs) ≡ Some x
placed-last [] x = refl
placed-last (z ∷ xs) x = placed-last xs x
