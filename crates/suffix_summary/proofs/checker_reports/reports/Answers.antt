use Rattle.std.proofs.Common.{[], ◌∷◌}
use Rattle.typed_unit.specs.Texts.{texts_of}
use Rattle.ordered_reports.proofs.Agreeing.{alone}
use Rattle.ordered_reports.proofs.InOrder.{of-one, in-order}
use Rattle.ordered_reports.proofs.OwnFiles.{own-files}
use Rattle.ordered_reports.specs.Reporting.{checker_of}
use Rattle.suffix_summary.proofs.checker_reports.reports.Goals as goal

pub returns : goal.returns
returns c =
    let units = c.args.program.now.units.items in
    let checker = checker_of c.args.number c.args.machine.now c.args.names.now c.args.depth in
    in-order (texts_of units) (checker ∷ []) (alone checker) c.sorted.result (λ list. list.items) c.in_ok-found.found.items
    (of-one (texts_of units) checker c.in_ok-found.found.items c.in_ok-found.ensures) (own-files units c.args.program.now.numbered)
    c.sorted.ensures.ascending c.sorted.ensures.real c.sorted.ensures.same
