use Rattle.std.proofs.Common.{◌≡◌, drop}
use Rattle.metal_grammar.specs.FirstFault.{fault_of_rules}
use Rattle.metal_written.specs.Placed.{placed_views}
use Rattle.metal_numbers.specs.MetalDeclared.DeclaredHoles.{declared_views}
use Rattle.metal_reader.proofs.metal_faults.first_fault.check_rules.Given as goal

abbrev pub invariant-loop-rule : goal.invariant-loop-rule
invariant-loop-rule l =
    fault_of_rules l.builder.names.now (declared_views l.declared) (placed_views (drop l.rule-index l.rules)) ≡ fault_of_rules l.builder.names.now (declared_views l.declared) (placed_views l.rules)
