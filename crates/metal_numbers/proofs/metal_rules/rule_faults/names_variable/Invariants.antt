use Rattle.std.proofs.Common.{◌≡◌, drop, ◌++◌}
use Rattle.metal_grammar.specs.Rules.{is_among, all_pattern_names, all_callout_names, action_names_of}
use Rattle.metal_grammar.specs.Faults.{any_of, names_variable}
use Rattle.metal_written.specs.Written.{rule_view}
use Rattle.metal_numbers.proofs.metal_rules.rule_faults.names_variable.Given as goal

abbrev pub invariant-loop-variable : goal.invariant-loop-variable
invariant-loop-variable l = any_of (is_among (all_pattern_names (rule_view l.rule) ++ all_callout_names (rule_view l.rule) ++ action_names_of (rule_view l.rule).action)) (drop l.variable-index l.variables) ≡ names_variable l.variables (rule_view l.rule)
