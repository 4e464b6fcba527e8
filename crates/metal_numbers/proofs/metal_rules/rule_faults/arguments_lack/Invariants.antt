use Rattle.std.proofs.Common.{◌≡◌, drop, map}
use Rattle.metal_grammar.specs.Faults.{any_of}
use Rattle.metal_written.specs.Placed.{placed_view}
use Rattle.metal_written.specs.Written.{identifier_view}
use Rattle.metal_numbers.specs.MetalRules.RuleFaults.{argument_names, told_lacks}
use Rattle.metal_numbers.proofs.metal_rules.rule_faults.arguments_lack.Given as goal

abbrev pub invariant-loop-argument : goal.invariant-loop-argument
invariant-loop-argument l = any_of (told_lacks l.holes (placed_view l.rule)) (argument_names (map identifier_view (drop l.argument-index l.arguments))) ≡ any_of (told_lacks l.holes (placed_view l.rule)) (argument_names (map identifier_view l.arguments))
