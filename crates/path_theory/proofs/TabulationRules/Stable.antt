-- Where equality can be tested, what a list contains somehow it contains. So a list that is exactly what follows by rules, as far as something is
-- known, is exactly what follows somehow.
use Rattle.std.proofs.Common.{◌≡◌, ℕ, zero, suc, ◌<◌, arith, Bool, true, false, ◌||◌, true≢false, List, [], ◌∷◌, length, Contains, refl, sym, ap, ◌∙◌}
use Rattle.std.specs.Prelude.{slice_index_or}
use Rattle.std.proofs.Math.Bool.{Bool-set}
use Rattle.std.proofs.Math.Logic.{∥∥₁_map, ∥∥₁_map₂, ∥∥₁_elim}
use Rattle.least_set.specs.Logs.{IsExactly}

module _ {E : Type 0} (eq : E → E → Bool) (same : (x y : E) → eq x y ≡ true → x ≡ y) (self : (x : E) → eq x x ≡ true) where
  abbrev among : List E → E → Bool
  among [] c = false
  among (x ∷ xs) c = eq x c || among xs c

  either : (a b : Bool) (P : Type 0) → (a ≡ true → P) → (b ≡ true → P) → a || b ≡ true → P
  either true b P f g h = f refl
  either false b P f g h = g h

  later : (x : E) (xs : List E) (c : E) → Contains xs c → Contains (x ∷ xs) c
  later x xs c h = (suc h.0, grind arith, h.2)

  is-among : (xs : List E) (c : E) → among xs c ≡ true → Contains xs c
  is-among [] c h = absurd (true≢false (sym h))
  is-among (x ∷ xs) c h = either (eq x c) (among xs c) (Contains (x ∷ xs) c) (λ k. (zero, grind arith, same x c k)) (λ k. later x xs c (is-among xs c k)) h

  or-true : (a : Bool) → a || true ≡ true
  or-true true = refl
  or-true false = refl

  at : (xs : List E) (c : E) (k : ℕ) → k < length xs → slice_index_or xs k c ≡ c → among xs c ≡ true
  at [] c k l h = absurd (omega (arith, l))
  at (x ∷ xs) c zero l h = ap (λ z. z || among xs c) (ap (λ z. eq z c) h ∙ self c)
  at (x ∷ xs) c (suc k) l h = ap (λ z. eq x c || z) (at xs c k (grind arith) h) ∙ or-true (eq x c)

  -- what is contained somehow is contained
  pub stable : (xs : List E) (c : E) → ∥ Contains xs c ∥₁ → Contains xs c
  stable xs c h = is-among xs c (∥∥₁_elim h (Bool-set _ _) (λ k. at xs c k.0 k.1 k.2))

  pub exactly : {X : Type 0} (xs : List E) (P : E → Type 0) → ∥ X ∥₁ → (X → IsExactly xs P) → IsExactly xs (λ c. ∥ P c ∥₁)
  exactly xs P h f = (λ c i. ∥∥₁_map h (λ x. (f x).0 c i), λ c p. stable xs c (∥∥₁_map₂ h p (λ x q. (f x).1 c q)))
