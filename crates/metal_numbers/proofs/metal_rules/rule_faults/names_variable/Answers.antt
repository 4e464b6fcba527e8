use Rattle.std.proofs.Common.{◌++◌}
use Rattle.metal_grammar.specs.Rules.{all_pattern_names, all_callout_names, action_names_of}
use Rattle.metal_written.specs.Written.{rule_view}
use Rattle.metal_numbers.proofs.MetalRules.Variables.{any_swap}
use Rattle.metal_numbers.proofs.metal_rules.rule_faults.names_variable.Goals as goal

pub loop-variable-init : goal.loop-variable-init
loop-variable-init c =
    let rule = rule_view c.args.rule.now in
    any_swap (all_pattern_names rule ++ all_callout_names rule ++ action_names_of rule.action) c.args.variables.now
