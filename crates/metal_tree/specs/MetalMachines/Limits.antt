-- The limits of machines, and what is true of the size of every one.
use Rattle.std.specs.Prelude.{◌≡◌, ◌≤◌, ℕ, ◌+◌, List, [], ◌∷◌, length}
use Rattle.metal_tree.specs.MetalMachines.Machine.{Rule, Machine}

abbrev pub most_variables : ℕ
most_variables = 8

abbrev pub most_holes : ℕ
most_holes = 16

abbrev pub most_rules : ℕ
most_rules = 1000

-- the rules have these numbers, one after the other
abbrev pub AreNumbered : ℕ → List Rule → Type 0
AreNumbered number [] = Unit {0}
AreNumbered number (r ∷ rs) = (r.number ≡ number) × AreNumbered (number + 1) rs

pub record IsLimited (m : Machine) : Type 0 where
  pub variables : m.variables ≤ most_variables
  pub holes : length m.holes ≤ most_holes
  pub first : m.variables ≤ length m.holes
  pub states : length m.states ≡ m.variables
  pub rules : length m.rules ≤ most_rules
  pub numbers : AreNumbered 1 m.rules
