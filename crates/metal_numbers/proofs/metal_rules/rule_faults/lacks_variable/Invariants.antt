use Rattle.std.proofs.Common.{◌≡◌, drop}
use Rattle.metal_grammar.specs.Faults.{any_of}
use Rattle.metal_written.specs.Placed.{placed_view}
use Rattle.metal_numbers.specs.MetalRules.RuleFaults.{needed_hole}
use Rattle.metal_numbers.proofs.metal_rules.rule_faults.lacks_variable.Given as goal

abbrev pub invariant-loop-hole : goal.invariant-loop-hole
invariant-loop-hole l = any_of (needed_hole (placed_view l.rule)) (drop l.hole-index l.holes) ≡ any_of (needed_hole (placed_view l.rule)) l.holes
