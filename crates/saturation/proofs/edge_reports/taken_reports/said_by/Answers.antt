use Rattle.std.proofs.Common.{◌∙◌, refl, sym, ap, true≢false}
use Rattle.std.specs.Option.{option_copied}
use Rattle.saturation.proofs.EdgeReports.AtEvents.{says, silent}
use Rattle.state_tuples.specs.RuleChoices.Values.{taken_of}
use Rattle.state_tuples.specs.TransitionReports.TakenRules.{checker_at}
use Rattle.block_flows.proofs.TupleFlows.Lists.{if-ok}
use Rattle.saturation.proofs.edge_reports.taken_reports.said_by.Goals as goal

pub returns-then-not-has_rule : goal.returns-then-not-has_rule
returns-then-not-has_rule c depth f es a r = absurd (true≢false (sym (c.has_rule.ensures.all r.low r.high) ∙ c.if-not-has_rule.true))

pub returns-in_default : goal.returns-in_default
returns-in_default c depth f es a r =
    silent (checker_at c.args.checker.now depth) f c.args.unit.now es c.args.rules.now a c.args.firing.now (sym c.rules_of.ensures ∙ ap option_copied c.in_default.is)

pub returns : goal.returns
returns c depth f es a r =
    let x = c.args.firing.now in
    if-ok _ _ c.report_of.result
    (λ q e.
    says (checker_at c.args.checker.now depth) f c.args.unit.now es c.args.rules.now a x c.in-Some.event.now c.as_ref-object.result q
    (sym c.rules_of.ensures ∙ ap option_copied c.in-Some.is) c.as_ref-object.ensures.value e)
    (c.report_of.ensures depth f (taken_of x.taken.now) (record { rule = r.found; binding = refl }))
