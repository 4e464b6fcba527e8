-- A root among the first functions is one below them, and a root is uncalled or remains behind the earlier ones.
use Rattle.std.proofs.Common.{arith, ◌≡◌, ◌⊎◌, ◌↔◌, inl, inr, ℕ, zero, suc, ◌<◌, refl, sym, ap, subst}
use Rattle.path_model.specs.CheckerPrograms.Roots.{Reaches, IsUncalled, Remains, IsRootBelow, IsRoot}

below_next : (f n : ℕ) → f < suc n → (f < n) ⊎ (f ≡ n)
below_next zero zero h = inr refl
below_next zero (suc n) h = inl (omega arith)
below_next (suc f) zero h = absurd (omega (arith, h))
below_next (suc f) (suc n) h = elim (below_next f n (omega (arith, h))) [ inl l ↦ inl (omega (arith, l)) | inr e ↦ inr (ap suc e) ]

module _ (L : ℕ → ℕ → Type 0) where
  pub root_below : (n f : ℕ) → IsRootBelow L n f → f < n
  root_below zero f r = elim r [ ]
  root_below (suc n) f (inl r) = let h = root_below n f r in omega arith
  root_below (suc n) f (inr r) = let e = r.0 in omega arith

  pub root_of_below : (n f : ℕ) → IsRootBelow L n f → IsRoot L f
  root_of_below zero f r = elim r [ ]
  root_of_below (suc n) f (inl r) = root_of_below n f r
  root_of_below (suc n) f (inr r) = subst (λ x. IsRootBelow L (suc x) f) (sym r.0) (inr r)

  pub below_of_root : (n f : ℕ) → f < n → IsRoot L f → IsRootBelow L n f
  below_of_root zero f h r = absurd (omega (arith, h))
  below_of_root (suc n) f h r = elim (below_next f n h) [
    | inl l ↦ inl (below_of_root n f l r)
    | inr e ↦ subst (λ x. IsRootBelow L (suc x) f) e r
  ]

  -- behind which functions another remains
  abbrev Earlier : ℕ → ℕ → Type 0
  Earlier f g = IsUncalled L g ⊎ ((g < f) × IsRoot L g)

  to-earlier : (f g : ℕ) → IsUncalled L g ⊎ IsRootBelow L f g → Earlier f g
  to-earlier f g (inl none) = inl none
  to-earlier f g (inr r) = inr (root_below f g r, root_of_below f g r)

  from-earlier : (f g : ℕ) → Earlier f g → IsUncalled L g ⊎ IsRootBelow L f g
  from-earlier f g (inl none) = inl none
  from-earlier f g (inr r) = inr (below_of_root f g r.0 r.1)

  to-root : (f : ℕ) → IsRootBelow L (suc f) f → IsUncalled L f ⊎ Remains L (Earlier f) f
  to-root f (inl r) = let h = root_below f f r in absurd (omega (arith, h))
  to-root f (inr (e, inl none)) = inl none
  to-root f (inr (e, inr free)) = inr (λ g h r. free g (from-earlier f g h) r)

  from-root : (f : ℕ) → IsUncalled L f ⊎ Remains L (Earlier f) f → IsRootBelow L (suc f) f
  from-root f (inl none) = inr (refl, inl none)
  from-root f (inr free) = inr (refl, inr (λ g h r. free g (to-earlier f g h) r))

  pub root-is : (f : ℕ) → IsRoot L f ↔ (IsUncalled L f ⊎ Remains L (Earlier f) f)
  root-is f = (to-root f, from-root f)
