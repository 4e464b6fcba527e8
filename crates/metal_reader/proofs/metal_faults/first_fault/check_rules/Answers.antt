use Rattle.std.proofs.Common.{◌≡◌, None, sym, ap, ◌∙◌, subst}
use Rattle.metal_grammar.specs.FirstFault.{fault_of_rule, fault_of_rules}
use Rattle.metal_written.specs.Placed.{placed_view, placed_views}
use Rattle.metal_numbers.specs.MetalDeclared.DeclaredHoles.{declared_views}
use Rattle.metal_reader.proofs.MetalFaults.Order.{Tells, of_declared, rules_next, rules_told, rules_end}
use Rattle.metal_reader.proofs.metal_faults.first_fault.check_rules.Goals as goal

pub loop-rule-preserved : goal.loop-rule-preserved
loop-rule-preserved c =
    let names = c.args.builder.now.names.now in
    let declared = declared_views c.args.declared.now in
    let rules = c.args.rules.now in
    let rule = c.rule-item.result in
    let same = of_declared names declared c.in_ok-variables.variables.now c.in_ok-all.all.now (placed_view rule) c.in_ok-variables.ensures c.in_ok-all.ensures in
    rules_next names declared rules c.loop-rule.rule-index rule (fault_of_rules names declared (placed_views rules)) c.loop-rule-test.true c.rule-item.is (same ∙ c.in_ok-check_rule.ensures) c.loop-rule.invariant
