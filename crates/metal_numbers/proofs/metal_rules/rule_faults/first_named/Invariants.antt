use Rattle.std.proofs.Common.{◌≡◌, drop, filter}
use Rattle.metal_grammar.specs.Rules.{is_among}
use Rattle.metal_grammar.specs.Faults.{mentioned}
use Rattle.metal_written.specs.Placed.{placed_view}
use Rattle.metal_numbers.specs.MetalRules.RuleFaults.{first_of}
use Rattle.metal_numbers.proofs.metal_rules.rule_faults.first_named.Given as goal

abbrev pub invariant-loop-variable : goal.invariant-loop-variable
invariant-loop-variable l = first_of (filter (is_among (mentioned (placed_view l.rule))) (drop l.variable-index l.variables)) ≡ first_of (filter (is_among (mentioned (placed_view l.rule))) l.variables)
