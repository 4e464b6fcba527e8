use Rattle.std.proofs.Common.{◌≡◌, drop}
use Rattle.metal_grammar.specs.Faults.{any_of, mentioned}
use Rattle.metal_written.specs.Placed.{placed_view}
use Rattle.metal_numbers.specs.MetalRules.RuleFaults.{another_named}
use Rattle.metal_numbers.proofs.metal_rules.rule_faults.names_other.Given as goal

abbrev pub invariant-loop-variable : goal.invariant-loop-variable
invariant-loop-variable l = any_of (another_named (mentioned (placed_view l.rule)) l.first) (drop l.variable-index l.variables) ≡ any_of (another_named (mentioned (placed_view l.rule)) l.first) l.variables
