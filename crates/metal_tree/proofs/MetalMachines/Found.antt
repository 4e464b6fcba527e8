-- Rules by their numbers.
use Rattle.std.proofs.Common.{◌≡◌, ℕ, zero, suc, ◌+◌, nat_eq, true, false, List, [], ◌∷◌, arith, refl, subst}
use Rattle.std.specs.Prelude.{slice_get}
use Rattle.metal_tree.specs.MetalMachines.Machine.{Rule}
use Rattle.metal_tree.specs.MetalMachines.Limits.{AreNumbered}
use Rattle.metal_tree.specs.MetalMachines.Rules.{rule_numbered}

first : (n m : ℕ) → n ≡ m → nat_eq n (m + 0) ≡ true
first n m h = grind (arith, h)

later : (n m k : ℕ) → n ≡ m → nat_eq n (m + suc k) ≡ false
later n m k h = grind (arith, h)

next : (n k : ℕ) → (n + 1 + k) ≡ (n + suc k)
next n k = omega arith

pub found : (number k : ℕ) (rs : List Rule) → AreNumbered number rs → rule_numbered (number + k) rs ≡ slice_get rs k
found number k [] h = refl
found number zero (r ∷ rs) h = rw (first r.number number h.0) refl
found number (suc k) (r ∷ rs) h =
    rw (later r.number number k h.0) (subst (λ n. rule_numbered n rs ≡ slice_get rs k) (next number k) (found (number + 1) k rs h.1))
