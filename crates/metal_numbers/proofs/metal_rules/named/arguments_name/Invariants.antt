use Rattle.std.proofs.Common.{◌≡◌, drop, map}
use Rattle.metal_grammar.specs.Rules.{is_among}
use Rattle.metal_written.specs.Written.{identifier_view}
use Rattle.metal_numbers.specs.MetalRules.RuleFaults.{argument_names}
use Rattle.metal_numbers.proofs.metal_rules.named.arguments_name.Given as goal

abbrev pub invariant-loop-argument : goal.invariant-loop-argument
invariant-loop-argument l = is_among (argument_names (map identifier_view (drop l.argument-index l.arguments))) l.name ≡ is_among (argument_names (map identifier_view l.arguments)) l.name
