-- Numbers of blocks, where the first of a graph and the block 0 have each other's.
use Rattle.std.proofs.Common.{◌≡◌, ℕ, ◌<◌, ◌≤◌, Bool, true, false, nat_eq, cond, refl, arith}
use Rattle.std.proofs.lemmas.Bool.{eqb-true}
use Rattle.numbered_program.specs.Views.{swapped}

-- a number of a block is one of a block
pub swapped_within : (first b n : ℕ) → first < n → b < n → swapped first b < n
swapped_within first b n h k = by (nat_eq b 0) (nat_eq b first)
  where
    by : (x y : Bool) → cond x first (cond y 0 b) < n
    by true y = h
    by false true = let z : 0 < n = omega (arith, k) in z
    by false false = k

-- and what is none stays none
pub swapped_past : (first b n : ℕ) → first < n → n ≤ b → swapped first b ≡ b
swapped_past first b n h k = by (nat_eq b 0) (nat_eq b first) refl refl
  where
    by : (x y : Bool) → nat_eq b 0 ≡ x → nat_eq b first ≡ y → cond x first (cond y 0 b) ≡ b
    by true y e d = absurd (omega (arith, h, k, eqb-true b 0 e))
    by false true e d = absurd (omega (arith, h, k, eqb-true b first d))
    by false false e d = refl
