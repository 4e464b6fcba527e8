use Rattle.std.proofs.Common.{◌≡◌, drop, map}
use Rattle.metal_grammar.specs.Grammar.{Before, each, is_rule}
use Rattle.metal_tree.specs.MetalMachines.Kept.{all_of}
use Rattle.metal_forms.specs.Before.{Knows}
use Rattle.metal_written.specs.Written.{rule_view, rules_row}
use Rattle.metal_forms.proofs.well_formed.are_rules.Given as goal

abbrev pub invariant-loop-rule : goal.invariant-loop-rule
invariant-loop-rule l = (b : Before) → Knows l.before b → all_of (is_rule l.names b.holes) (map rule_view (drop l.rule-index l.rule-items)) ≡ each (is_rule l.names b.holes) (rules_row l.section.rules)
