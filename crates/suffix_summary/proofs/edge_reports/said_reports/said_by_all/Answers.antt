use Rattle.std.proofs.Common.{◌≡◌, ◌∙◌, sym, get_or, map}
use Rattle.std.proofs.lemmas.List.{get_or_default}
use Rattle.std.specs.List.{filter_map}
use Rattle.least_set.proofs.Growing.{all_of}
use Rattle.row_flows.specs.declared.behind.Firing.{Firing}
use Rattle.state_tuples.specs.TransitionReports.TakenRules.{checker_at}
use Rattle.ordered_reports.proofs.Gathered.{gave, gave-none}
use Rattle.suffix_summary.specs.EdgeReports.Said.{happening_at, said}
use Rattle.suffix_summary.proofs.edge_reports.said_reports.said_by_all.Goals as goal

abbrev zero : Firing
zero = record { event = 0; object = 0; place = 0 }

pub loop-firing-preserved-in_default : goal.loop-firing-preserved-in_default
loop-firing-preserved-in_default c = λ depth f es a.
    let xs = c.args.firings.now in
    let i = c.loop-firing.firing-index in
    let x = get_or xs i zero in
    gave-none (said (checker_at c.args.checker.now depth) f c.args.followed.now.keys (map (happening_at c.args.unit.now) es)) xs i x
    c.loop-firing.reports.items c.loop-firing-test.true (get_or_default xs i zero x c.loop-firing-test.true) (c.loop-firing.invariant depth f es a) (sym (c.in_ok-spoken.ensures depth f es a) ∙ c.in_default.is)

pub loop-firing-preserved : goal.loop-firing-preserved
loop-firing-preserved c = λ depth f es a.
    let xs = c.args.firings.now in
    let i = c.loop-firing.firing-index in
    let x = get_or xs i zero in
    gave (said (checker_at c.args.checker.now depth) f c.args.followed.now.keys (map (happening_at c.args.unit.now) es)) xs i x
    c.loop-firing.reports.items c.loop-firing-test.true (get_or_default xs i zero x c.loop-firing-test.true) (c.loop-firing.invariant depth f es a) c.push.new.self.items c.in-Some.report c.in_ok-push.ensures.items
    (sym (c.in_ok-spoken.ensures depth f es a) ∙ c.in-Some.is)

pub returns : goal.returns
returns c = λ depth f es a.
    all_of (λ l. c.loop-firing.reports.items ≡ filter_map (said (checker_at c.args.checker.now depth) f c.args.followed.now.keys (map (happening_at c.args.unit.now) es)) l) c.args.firings.now
    c.loop-firing.firing-index c.loop-firing-test.false c.loop-firing.auto.firing-index-end (c.loop-firing.invariant depth f es a)
