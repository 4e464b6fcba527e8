-- The theorems on machines as statements, which contracts can name.
use Rattle.std.specs.Prelude.{◌≡◌, ℕ, ◌+◌, List, slice_get}
use Rattle.metal_tree.specs.MetalMachines.Machine.{Rule}
use Rattle.metal_tree.specs.MetalMachines.Limits.{AreNumbered}
use Rattle.metal_tree.specs.MetalMachines.Rules.{rule_numbered}

-- Rules that are numbered one after the other are found by their places.
abbrev pub RulesAreFound : Type 0
RulesAreFound = (number k : ℕ) (rs : List Rule) → AreNumbered number rs → rule_numbered (number + k) rs ≡ slice_get rs k
