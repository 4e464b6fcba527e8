-- Lists that grow by those that pass a test.
use Rattle.std.proofs.Common.{◌≡◌, ℕ, ◌+◌, ◌<◌, Bool, true, false, cond, not, List, [], ◌∷◌, ◌++◌, length, get_or, take, map, filter, ap, refl, ◌∙◌, append_assoc, append-nil}
use Rattle.std.proofs.lemmas.List.{take_all}
use Rattle.metal_numbers.proofs.MetalDeclared.InHoles.{map_joined, viewed_more}
use Rattle.metal_numbers.specs.Numbers.{is_kind}

filter-step : {A : Type 0} (b : Bool) (x : A) (xs ys zs : List A) → xs ≡ ys ++ zs → cond b (x ∷ xs) xs ≡ cond b (x ∷ ys) ys ++ zs
filter-step true x xs ys zs h = ap (λ l. x ∷ l) h
filter-step false x xs ys zs h = h

pub filtered-joined : {A : Type 0} (p : A → Bool) (xs ys : List A) → filter p (xs ++ ys) ≡ filter p xs ++ filter p ys
filtered-joined p [] ys = refl
filtered-joined p (x ∷ xs) ys = filter-step (p x) x _ _ _ (filtered-joined p xs ys)

-- one thing more passes a test, or not
pub chosen_more : {A B : Type 0} (p : B → Bool) (view : A → B) (xs : List A) (i : ℕ) (d : A) → i < length xs → p (view (get_or xs i d)) ≡ true → filter p (map view (take (i + 1) xs)) ≡ filter p (map view (take i xs)) ++ (view (get_or xs i d) ∷ [])
chosen_more p view xs i d h t =
    ap (filter p) (viewed_more view xs i d h) ∙ filtered-joined p (map view (take i xs)) (view (get_or xs i d) ∷ [])
    ∙ ap (λ b. filter p (map view (take i xs)) ++ cond b (view (get_or xs i d) ∷ []) []) t

pub passed_more : {A B : Type 0} (p : B → Bool) (view : A → B) (xs : List A) (i : ℕ) (d : A) → i < length xs → p (view (get_or xs i d)) ≡ false → filter p (map view (take (i + 1) xs)) ≡ filter p (map view (take i xs))
passed_more p view xs i d h t =
    ap (filter p) (viewed_more view xs i d h) ∙ filtered-joined p (map view (take i xs)) (view (get_or xs i d) ∷ [])
    ∙ ap (λ b. filter p (map view (take i xs)) ++ cond b (view (get_or xs i d) ∷ []) []) t ∙ append-nil _

-- a kind and whether it is the one
pub kind_same : (b s : Bool) → s ≡ b → is_kind b s ≡ true
kind_same true s h = h
kind_same false s h = ap not h

pub kind_other : (b s : Bool) → (s ≡ b → ⊥) → is_kind b s ≡ false
kind_other true true h = absurd (h refl)
kind_other true false h = refl
kind_other false true h = refl
kind_other false false h = absurd (h refl)

pub ruleset chosen = (take_all, map_joined, chosen_more, passed_more, kind_same, kind_other, append_assoc, append-nil)
