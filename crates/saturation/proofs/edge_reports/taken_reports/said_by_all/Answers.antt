use Rattle.std.proofs.Common.{◌≡◌, ◌∙◌, sym, map}
use Rattle.std.specs.List.{filter_map}
use Rattle.saturation.specs.EdgeReports.Said.{happening_at, said_by}
use Rattle.ordered_reports.proofs.Gathered.{gave, gave-none}
use Rattle.least_set.proofs.Growing.{all_of}
use Rattle.state_tuples.specs.TransitionReports.TakenRules.{checker_at}
use Rattle.saturation.proofs.edge_reports.taken_reports.said_by_all.Goals as goal

pub loop-firing-preserved-in_default : goal.loop-firing-preserved-in_default
loop-firing-preserved-in_default c = λ depth f es a are.
    let x = c.firing-item.result in
    let i = c.loop-firing.firing-index in
    let within = c.loop-firing-test.true in
    gave-none (said_by (checker_at c.args.checker.now depth) f (map (happening_at c.args.unit.now) es)) c.args.firings.now i x c.loop-firing.reports.items within c.firing-item.is
    (c.loop-firing.invariant depth f es a are) (sym (c.in_ok-said.ensures depth f es a (are x (i, within, sym c.firing-item.is))) ∙ c.in_default.is)

pub loop-firing-preserved : goal.loop-firing-preserved
loop-firing-preserved c = λ depth f es a are.
    let x = c.firing-item.result in
    let i = c.loop-firing.firing-index in
    let within = c.loop-firing-test.true in
    gave (said_by (checker_at c.args.checker.now depth) f (map (happening_at c.args.unit.now) es)) c.args.firings.now i x c.loop-firing.reports.items within c.firing-item.is
    (c.loop-firing.invariant depth f es a are) c.push.new.self.items c.in-Some.report c.in_ok-push.ensures.items
    (sym (c.in_ok-said.ensures depth f es a (are x (i, within, sym c.firing-item.is))) ∙ c.in-Some.is)

pub returns : goal.returns
returns c = λ depth f es a are.
    all_of (λ l. c.loop-firing.reports.items ≡ filter_map (said_by (checker_at c.args.checker.now depth) f (map (happening_at c.args.unit.now) es)) l) c.args.firings.now
    c.loop-firing.firing-index c.loop-firing-test.false c.loop-firing.auto.firing-index-end (c.loop-firing.invariant depth f es a are)
