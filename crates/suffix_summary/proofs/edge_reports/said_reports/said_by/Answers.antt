use Rattle.std.proofs.Common.{◌∙◌, map, sym, ap}
use Rattle.std.specs.Option.{option_copied}
use Rattle.block_flows.proofs.TupleFlows.Lists.{if-ok}
use Rattle.metal_tree.specs.Whole.{machine_view}
use Rattle.state_tuples.specs.TransitionReports.TakenRules.{checker_at}
use Rattle.suffix_summary.proofs.EdgeReports.AtEvents.{event-missing, event-there, says-at, silent-at}
use Rattle.suffix_summary.specs.EdgeReports.Said.{happening_at}
use Rattle.suffix_summary.proofs.edge_reports.said_reports.said_by.Goals as goal

pub returns-in_default : goal.returns-in_default
returns-in_default c depth f es a =
    let k = c.args.checker.now in
    let u = c.args.unit.now in
    let x = c.args.firing.now in
    silent-at (checker_at k depth) f c.args.followed.now.keys (map (happening_at u) es) x
    (event-missing (machine_view k.machine.now) depth f u es c.args.rules.now x.event a (sym c.rules_of.ensures ∙ ap option_copied c.in_default.is))

pub returns : goal.returns
returns c depth f es a =
    let k = c.args.checker.now in
    let u = c.args.unit.now in
    let x = c.args.firing.now in
    let there = event-there (machine_view k.machine.now) depth f u es c.args.rules.now x.event c.in-Some.event.now a (sym c.rules_of.ensures ∙ ap option_copied c.in-Some.is) in
    if-ok _ _ c.said_at.result
    (λ q s. says-at (checker_at k depth) f c.args.followed.now.keys (map (happening_at u) es) x (happening_at u there.event) q there.is s)
    (c.said_at.ensures depth f there.event there.rules)
