use Rattle.std.proofs.Common.{map}
use Rattle.typed_unit.specs.Texts.{texts_of}
use Rattle.command.specs.CheckerReports.Checkers.{checkers_in}
use Rattle.command.specs.Counted.{CountLogs}
use Rattle.command.proofs.CheckerReports.Counting.{counted-none, counted-next}
use Rattle.command.proofs.CheckerReports.Gathering.{gathered-none, gathered-next}
use Rattle.least_set.proofs.Growing.{all_of}
use Rattle.metal_tree.specs.Whole.{machine_view}
use Rattle.ordered_reports.proofs.InOrder.{HasReports}
use Rattle.command.proofs.checker_reports.entries.all_logs.Goals as goal

pub loop-number-init : goal.loop-number-init
loop-number-init c = record {
  reports = gathered-none (texts_of c.args.program.now.units.items) c.args.depth c.args.names.now _ c.new-all.ensures.items;
  logs = counted-none (texts_of c.args.program.now.units.items) c.args.depth c.args.names.now c.args.steps.now.count;
}

pub loop-number-preserved : goal.loop-number-preserved
loop-number-preserved c =
    let texts = texts_of c.args.program.now.units.items in
    let machines = c.args.machines.now in
    let i = c.loop-number.number in
    let x = c.index-machines-number.result in
    let within = c.loop-number-test.true in
    let is = c.index-machines-number.is in
    record {
      reports = gathered-next texts c.args.depth c.args.names.now machines i x c.loop-number.all.items c.in_ok-more.more.items _ within is c.in_ok-append.ensures.items c.loop-number.invariant.reports c.in_ok-more.ensures.reports;
      logs = counted-next texts c.args.depth c.args.names.now machines i x c.args.steps.now.count c.loop-number.steps.count c.one_log.new.steps.count within is c.loop-number.invariant.logs c.in_ok-more.ensures.log;
    }

pub returns-clause-reports : goal.returns-clause-reports
returns-clause-reports c =
    all_of (λ machines. ∥ HasReports (checkers_in (map machine_view machines) c.args.depth c.args.names.now) (texts_of c.args.program.now.units.items) c.loop-number.all.items ∥₁)
    c.args.machines.now c.loop-number.number c.loop-number-test.false c.loop-number.auto.number-end c.loop-number.invariant.reports

pub returns-clause-logs : goal.returns-clause-logs
returns-clause-logs c =
    all_of (λ machines. ∥ CountLogs (checkers_in (map machine_view machines) c.args.depth c.args.names.now) (texts_of c.args.program.now.units.items) c.args.steps.now.count c.loop-number.steps.count ∥₁)
    c.args.machines.now c.loop-number.number c.loop-number-test.false c.loop-number.auto.number-end c.loop-number.invariant.logs
