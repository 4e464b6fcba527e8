use Rattle.std.proofs.Common.{map}
use Rattle.typed_unit.specs.Texts.{texts_of}
use Rattle.command.specs.CheckerReports.Checkers.{checkers_in}
use Rattle.command.proofs.CheckerReports.Numbered.{own-numbers}
use Rattle.metal_tree.specs.Whole.{machine_view}
use Rattle.ordered_reports.proofs.InOrder.{in-order}
use Rattle.ordered_reports.proofs.OwnFiles.{own-files}
use Rattle.command.proofs.checker_reports.reports.all_reports.Goals as goal

pub returns : goal.returns
returns c =
    let units = c.args.program.now.units.items in
    let machines = map machine_view c.args.machines.now in
    let depth = c.args.depth in
    let names = c.args.names.now in
    in-order (texts_of units) (checkers_in machines depth names) (own-numbers depth names machines) c.sorted.result (λ list. list.items) c.in_ok-all.all.items
    c.in_ok-all.ensures (own-files units c.args.program.now.numbered) c.sorted.ensures.ascending c.sorted.ensures.real c.sorted.ensures.same
