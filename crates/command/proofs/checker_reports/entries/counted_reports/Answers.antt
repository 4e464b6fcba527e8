use Rattle.std.proofs.Common.{map}
use Rattle.typed_unit.specs.Texts.{texts_of}
use Rattle.command.specs.CheckerReports.Checkers.{checkers_in}
use Rattle.command.proofs.CheckerReports.Counting.{on-ok}
use Rattle.command.proofs.CheckerReports.Numbered.{own-numbers}
use Rattle.metal_tree.specs.Whole.{machine_view}
use Rattle.ordered_reports.proofs.InOrder.{in-order}
use Rattle.ordered_reports.proofs.OwnFiles.{own-files}
use Rattle.command.proofs.checker_reports.entries.counted_reports.Goals as goal

pub returns-clause-reports : goal.returns-clause-reports
returns-clause-reports c =
    let units = c.args.program.now.units.items in
    let machines = map machine_view c.args.machines.now in
    let depth = c.args.depth in
    let names = c.args.names.now in
    in-order (texts_of units) (checkers_in machines depth names) (own-numbers depth names machines) c.sorted.result (λ list. list.items) c.in_ok-all.all.items
    c.in_ok-all.ensures.reports (own-files units c.args.program.now.numbered) c.sorted.ensures.ascending c.sorted.ensures.real c.sorted.ensures.same

pub returns-clause-logs : goal.returns-clause-logs
returns-clause-logs c = on-ok c.sorted.result _ c.in_ok-all.ensures.logs
