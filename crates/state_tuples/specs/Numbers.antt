-- Rules by their numbers.
use Rattle.std.specs.Prelude.{◌≡◌, ◌≤◌, length, Some}
use Rattle.metal_tree.specs.MetalMachines.Rules.{rule_numbered}
use Rattle.metal_tree.specs.declared.machine.Machine.{Machine}
use Rattle.metal_tree.specs.declared.rules.Rule.{Rule}
use Rattle.metal_tree.specs.Views.{rule_view, rule_views}

-- a rule is the machine's rule of its number
pub record IsRuleOf (m : Machine) (r : Rule) : Type 0 where
  pub low : 1 ≤ r.number
  pub high : r.number ≤ length m.rules.now
  pub found : rule_numbered r.number (rule_views m.rules.now) ≡ Some (rule_view r)
