use Rattle.std.proofs.Common.{◌∙◌, sym, ap}
use Rattle.std.specs.Option.{option_copied}
use Rattle.block_flows.proofs.TupleFlows.Lists.{if-ok}
use Rattle.state_tuples.specs.TransitionReports.TakenRules.{checker_at}
use Rattle.suffix_summary.proofs.EdgeReports.AtEvents.{says, silent}
use Rattle.suffix_summary.proofs.EdgeReports.RulesApplied.{applied-rule}
use Rattle.suffix_summary.specs.EdgeReports.Said.{happening_at}
use Rattle.suffix_summary.proofs.edge_reports.said_reports.said_at.Goals as goal

pub returns-in_default : goal.returns-in_default
returns-in_default c depth f e is =
    silent (checker_at c.args.checker.now depth) f c.args.unit.now e c.args.event.now is c.args.followed.now.keys c.args.firing.now (sym c.applied_at.ensures ∙ ap option_copied c.in_default.is)

pub returns : goal.returns
returns c depth f e is =
    let k = c.args.checker.now in
    let r = c.args.event.now in
    let x = c.args.firing.now in
    let a = c.in-Some.fired.now in
    let at = sym c.applied_at.ensures ∙ ap option_copied c.in-Some.is in
    let rule = applied-rule k.machine.now depth f (happening_at c.args.unit.now e) r is x.place a k.machine.now.kept.limits.numbers at in
    if-ok _ _ c.report_by.result
    (λ q s. says (checker_at k depth) f c.args.unit.now e r is c.args.followed.now.keys x a c.object_numbered-object.result q at c.object_numbered-object.ensures s)
    (c.report_by.ensures depth f rule)
