-- Tests of the items of a list.
use Rattle.std.proofs.Common.{◌≡◌, ◌∙◌, inl, inr, refl, sym, ap, Bool, true, false, ◌||◌, List, [], ◌∷◌, Contains, true≢false}
use Rattle.std.specs.List.{list_any}
use Rattle.std.proofs.lemmas.List.Elements.{Contains-append_cases}
use Rattle.least_set.proofs.Growing.{nothing}
use Rattle.row_flows.proofs.Lists.{a_later, the_first, the_one}

or_so : (a b : Bool) → b ≡ true → a || b ≡ true
or_so true b h = refl
or_so false b h = h

module _ {X : Type 0} (p : X → Bool) where
  -- one that passes the test
  pub passing : (xs : List X) → list_any p xs ≡ true → (x : X) × Contains xs x × (p x ≡ true)
  passing [] h = absurd (true≢false (sym h))
  passing (x ∷ xs) h = by (p x) refl (λ e. passing xs e)
    where
      by : (b : Bool) → p x ≡ b → (list_any p xs ≡ true → (y : X) × Contains xs y × (p y ≡ true)) → (y : X) × Contains (x ∷ xs) y × (p y ≡ true)
      by true e later = (x, the_first x xs, e)
      by false e later = let s = later (sym (ap (λ b. b || list_any p xs) e) ∙ h) in (s.0, a_later x xs s.0 s.1, s.2)

  pub some_passes : (xs : List X) (x : X) → Contains xs x → p x ≡ true → list_any p xs ≡ true
  some_passes [] x c h = absurd (nothing x c)
  some_passes (y ∷ xs) x c h = elim (Contains-append_cases (y ∷ []) xs x c) [
    | inl a ↦ ap (λ b. b || list_any p xs) (ap p (the_one y x a) ∙ h)
    | inr b ↦ or_so (p y) (list_any p xs) (some_passes xs x b h)
  ]
