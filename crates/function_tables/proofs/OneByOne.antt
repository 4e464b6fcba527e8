-- Lists that go together one by one, made one element after the other.
use Rattle.std.proofs.Common.{◌≡◌, ℕ, zero, suc, ◌+◌, ◌≤◌, List, [], ◌∷◌, ◌++◌, map, length, take, get_or, None, Some, slice_get, refl, sym, ap, ◌∙◌, subst, arith}
use Rattle.std.proofs.lemmas.List.{take_more, take_all}
use Rattle.std.proofs.lemmas.Option.{get_or_from_slice_get, slice_get_within, slice_get-map, slice_get_read, slice_get-get_or, same_Some}
use Rattle.std.specs.List.{AllZip}
use Rattle.std.specs.Option.{option_map}

-- one more of a list
module _ {A : Type 0} (xs : List A) (n : ℕ) (x : A) (at : slice_get xs n ≡ Some x) where
  take-next : take (n + 1) xs ≡ take n xs ++ (x ∷ [])
  take-next = take_more xs n x (slice_get_within xs n x at) ∙ ap (λ (z : A). take n xs ++ (z ∷ [])) (get_or_from_slice_get xs n x x at)

  -- what was taken, with one more behind it
  pub taken-next : (old new : List A) → new ≡ old ++ (x ∷ []) → old ≡ take n xs → new ≡ take (n + 1) xs
  taken-next old new e h = e ∙ ap (λ (l : List A). l ++ (x ∷ [])) h ∙ sym take-next

module _ {A B : Type 0} (R : A → B → Type 0) where
  pub zip-push : (xs : List A) (ys : List B) (x : A) (y : B) → AllZip R xs ys → R x y → AllZip R (xs ++ (x ∷ [])) (ys ++ (y ∷ []))
  zip-push [] [] x y h r = (r, tt)
  zip-push [] (b ∷ ys) x y h r = absurd h
  zip-push (a ∷ xs) [] x y h r = absurd h
  zip-push (a ∷ xs) (b ∷ ys) x y h r = (h.0, zip-push xs ys x y h.1 r)

  -- one more of each
  pub zip-next : (xs : List A) (old new : List B) (n : ℕ) (x : A) (y : B) → slice_get xs n ≡ Some x → new ≡ old ++ (y ∷ []) → AllZip R (take n xs) old → R x y → AllZip R (take (n + 1) xs) new
  zip-next xs old new n x y at e h r =
      subst (λ (l : List A). AllZip R l new) (sym (take-next xs n x at)) (subst (AllZip R (take n xs ++ (x ∷ []))) (sym e) (zip-push (take n xs) old x y h r))

  -- all of them
  pub zip-all : (xs : List A) (ys : List B) (n : ℕ) → length xs ≤ n → AllZip R (take n xs) ys → AllZip R xs ys
  zip-all xs ys n l h = subst (λ (zs : List A). AllZip R zs ys) (take_all n xs l) h

  -- what stands at the same place
  pub zip-at : (xs : List A) (ys : List B) (n : ℕ) (x : A) (y : B) → AllZip R xs ys → slice_get xs n ≡ Some x → slice_get ys n ≡ Some y → R x y
  zip-at [] ys n x y h e k = cc
  zip-at (a ∷ xs) [] n x y h e k = absurd h
  zip-at (a ∷ xs) (b ∷ ys) zero x y h e k = subst (λ (z : A). R z y) (same_Some a x e) (subst (R a) (same_Some b y k) h.0)
  zip-at (a ∷ xs) (b ∷ ys) (suc n) x y h e k = zip-at xs ys n x y h.1 e k

  -- what goes with an item of the first list, and with one of the second
  pub goes-with : (xs : List A) (ys : List B) (n : ℕ) (x : A) → AllZip R xs ys → slice_get xs n ≡ Some x → (y : B) × (slice_get ys n ≡ Some y) × R x y
  goes-with [] ys n x h e = cc
  goes-with (a ∷ xs) [] n x h e = absurd h
  goes-with (a ∷ xs) (b ∷ ys) zero x h e = (b, refl, subst (λ z. R z b) (same_Some a x e) h.0)
  goes-with (a ∷ xs) (b ∷ ys) (suc n) x h e = goes-with xs ys n x h.1 e

  pub partner : (xs : List A) (ys : List B) (n : ℕ) (y : B) → AllZip R xs ys → slice_get ys n ≡ Some y → (x : A) × (slice_get xs n ≡ Some x) × R x y
  partner xs [] n y h e = cc
  partner [] (b ∷ ys) n y h e = absurd h
  partner (a ∷ xs) (b ∷ ys) zero y h e = (a, refl, subst (R a) (same_Some b y e) h.0)
  partner (a ∷ xs) (b ∷ ys) (suc n) y h e = partner xs ys n y h.1 e

  pub no-partner : (xs : List A) (ys : List B) (n : ℕ) → AllZip R xs ys → slice_get ys n ≡ None → slice_get xs n ≡ None
  no-partner [] ys n h e = refl
  no-partner (a ∷ xs) [] n h e = absurd h
  no-partner (a ∷ xs) (b ∷ ys) zero h e = cc
  no-partner (a ∷ xs) (b ∷ ys) (suc n) h e = no-partner xs ys n h.1 e

-- what goes together after the second list was mapped
pub zip-map : {A B C : Type 0} (R : A → B → Type 0) (Q : A → C → Type 0) (v : B → C) → ((x : A) (y : B) → R x y → Q x (v y)) → (xs : List A) (ys : List B) → AllZip R xs ys → AllZip Q xs (map v ys)
zip-map R Q v f [] [] h = tt
zip-map R Q v f [] (b ∷ ys) h = absurd h
zip-map R Q v f (a ∷ xs) [] h = absurd h
zip-map R Q v f (a ∷ xs) (b ∷ ys) h = (f a b h.0, zip-map R Q v f xs ys h.1)

pub there : {A : Type 0} (xs : List A) (n : ℕ) → suc n ≤ length xs → (x : A) × (slice_get xs n ≡ Some x)
there [] n l = absurd (omega (arith, l))
there (x ∷ xs) n l = (get_or (x ∷ xs) n x, slice_get-get_or (x ∷ xs) n x l)

-- what stands at a place of a list that is mapped
pub map-at : {A B : Type 0} (v : A → B) (xs : List A) (i : ℕ) (x : A) → suc i ≤ length xs → x ≡ get_or xs i x → slice_get (map v xs) i ≡ Some (v x)
map-at v xs i x l e = slice_get-map v xs i ∙ ap (option_map v) (slice_get_read xs (length xs) i x refl l e)
