use Rattle.hole_matcher.specs.HoleBindings.Bindings.{binding_of}
use Rattle.hole_matcher.specs.HoleMessages.Sources.{maybe_object}
use Rattle.state_tuples.proofs.TransitionReports.Numbered.{no_action, nowhere, the_report}
use Rattle.state_tuples.proofs.transition_reports.reports.report_of.Goals as goal

pub returns-then-is_none : goal.returns-then-is_none
returns-then-is_none c depth function t h =
    no_action c.args.checker.now c.args.unit.now c.args.event.now depth function (maybe_object c.args.object) t c.args.rule (binding_of c.args.binding.now)
    c.rule.result.now c.is_none.result h c.rule.ensures c.is_none.ensures c.if-is_none.true

pub returns-in_default : goal.returns-in_default
returns-in_default c depth function t h =
    nowhere c.args.checker.now c.args.unit.now c.args.event.now depth function (maybe_object c.args.object) t c.token_of.result c.token_of.ensures c.in_default.is

pub returns : goal.returns
returns c depth function t h =
    the_report c.args.checker.now c.args.unit.now c.args.event.now depth function (maybe_object c.args.object) t c.args.rule (binding_of c.args.binding.now)
    c.rule.result.now c.is_none.result h c.rule.ensures c.is_none.ensures c.if-is_none.false
    c.token_of.result c.in-Some.token c.token_of.ensures c.in-Some.is c.in_ok-report.report (c.in_ok-report.ensures depth function.name)
