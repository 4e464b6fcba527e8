-- Lists that are made of what each value of one gives, and what there is only where something is present.
use Rattle.std.proofs.Common.{◌≡◌, ◌≤◌, inl, inr, zero, suc, List, [], ◌∷◌, map, length, Option, None, Some, Contains, arith, refl, sym, subst}
use Rattle.std.specs.Prelude.{flat_map}
use Rattle.std.specs.Option.{option_map_or}
use Rattle.std.proofs.lemmas.List.Elements.{Contains-append_left, Contains-append_right, Contains-append_cases, Contains-push_cases}
use Rattle.least_set.specs.Logs.{IsOnce, SomeGives}
use Rattle.least_set.proofs.Growing.{nothing}

-- a list of one has no other
pub the_one : {A : Type 0} (x y : A) → Contains (x ∷ []) y → x ≡ y
the_one x y h = elim (Contains-push_cases [] x y h) [ inl n ↦ absurd (nothing y n) | inr e ↦ e ]

pub the_first : {A : Type 0} (x : A) (xs : List A) → Contains (x ∷ xs) x
the_first x xs = (0, omega arith, refl)

pub a_later : {A : Type 0} (x : A) (xs : List A) (y : A) → Contains xs y → Contains (x ∷ xs) y
a_later x xs y h = Contains-append_right (x ∷ []) xs y h

module _ {A B : Type 0} (f : A → B) where
  pub of_map : (xs : List A) (y : B) → Contains (map f xs) y → (x : A) × Contains xs x × (f x ≡ y)
  of_map [] y h = absurd (nothing y h)
  of_map (x ∷ xs) y h = elim (Contains-append_cases (f x ∷ []) (map f xs) y h) [
    | inl a ↦ (x, the_first x xs, the_one (f x) y a)
    | inr b ↦ let s = of_map xs y b in (s.0, a_later x xs s.0 s.1, s.2)
  ]

  pub to_map : (xs : List A) (x : A) → Contains xs x → Contains (map f xs) (f x)
  to_map [] x h = absurd (nothing x h)
  to_map (y ∷ xs) x h = elim (Contains-append_cases (y ∷ []) xs x h) [
    | inl a ↦ subst (λ z. Contains (map f (y ∷ xs)) (f z)) (the_one y x a) (the_first (f y) (map f xs))
    | inr b ↦ a_later (f y) (map f xs) (f x) (to_map xs x b)
  ]

module _ {A B : Type 0} (f : A → List B) where
  pub of_flat : (xs : List A) (y : B) → Contains (flat_map f xs) y → SomeGives (λ x. Contains (f x)) xs y
  of_flat [] y h = absurd (nothing y h)
  of_flat (x ∷ xs) y h = elim (Contains-append_cases (f x) (flat_map f xs) y h) [
    | inl a ↦ (x, (0, omega arith, refl), a)
    | inr b ↦ let s = of_flat xs y b in (s.0, Contains-append_right (x ∷ []) xs s.0 s.1, s.2)
  ]

  pub to_flat : (xs : List A) (y : B) → SomeGives (λ x. Contains (f x)) xs y → Contains (flat_map f xs) y
  to_flat [] y s = absurd (nothing s.0 s.1)
  to_flat (x ∷ xs) y s = elim (Contains-append_cases (x ∷ []) xs s.0 s.1) [
    | inl a ↦ Contains-append_left (f x) (flat_map f xs) y (subst (λ z. Contains (f z) y) (sym (the_one x s.0 a)) s.2)
    | inr b ↦ Contains-append_right (f x) (flat_map f xs) y (to_flat xs y (s.0, b, s.2))
  ]

  pub of_present : (o : Option A) (y : B) → Contains (option_map_or f o []) y → (x : A) × (o ≡ Some x) × Contains (f x) y
  of_present None y h = absurd (nothing y h)
  of_present (Some x) y h = (x, refl, h)

  pub to_present : (o : Option A) (x : A) (y : B) → o ≡ Some x → Contains (f x) y → Contains (option_map_or f o []) y
  to_present o x y e h = subst (λ z. Contains (option_map_or f z []) y) (sym e) h

-- no two places of a list of one at most have the same
pub few_once : {A : Type 0} (xs : List A) → length xs ≤ 1 → IsOnce xs
few_once [] few i j c h k = cc
few_once (x ∷ []) few zero zero c h k = refl
few_once (x ∷ []) few zero (suc j) c h k = cc
few_once (x ∷ []) few (suc i) j c h k = cc
few_once (x ∷ (y ∷ xs)) few i j c h k = absurd (omega (arith, few))
