-- the reports so far were taken
use Rattle.std.proofs.Common.{◌≡◌, take}
use Rattle.report_model.proofs.reporters.chosen.render_one.Given as goal

abbrev pub invariant-loop-report : goal.invariant-loop-report
invariant-loop-report g l =
    let now = goal.Reporter-dyn g l.reporter.now in
    let first = goal.Reporter-dyn g l.fn.reporter.now in
    record {
      taken : now.taken l.reporter.now.1 ≡ take l.report-index l.reports;
      style : now.rendered l.reporter.now.1 ≡ first.rendered l.fn.reporter.now.1;
      named : now.called l.reporter.now.1 ≡ first.called l.fn.reporter.now.1;
    }
