use Rattle.std.proofs.Common.{[], ◌∷◌, map, sym, subst}
use Rattle.flow_graph.specs.Seen.{graph_in}
use Rattle.path_model.specs.CheckerGraphs.Graphs.{AreGraphs}
use Rattle.typed_unit.specs.Texts.{texts_of}
use Rattle.ordered_reports.proofs.Agreeing.{alone}
use Rattle.ordered_reports.proofs.InOrder.{of-one, in-order}
use Rattle.ordered_reports.proofs.OwnFiles.{own-files}
use Rattle.ordered_reports.specs.Reporting.{checker_of}
use Rattle.saturation.proofs.analysis.analyse.Goals as goal

-- the graphs are lent
pub reports_of-requires-clause-graphs : goal.reports_of-requires-clause-graphs
reports_of-requires-clause-graphs c = subst (λ gs. ∥ AreGraphs (texts_of c.args.program.now.units.items) (map (λ g. graph_in g) gs) ∥₁) (sym c.as_slice.ensures.value) c.in_ok-graphs.ensures

pub returns : goal.returns
returns c =
    let units = c.args.program.now.units.items in
    let checker = checker_of c.args.number c.args.machine.now c.args.names.now c.args.depth in
    in-order (texts_of units) (checker ∷ []) (alone checker) c.sorted.result (λ list. list.items) c.in_ok-found.found.items
    (of-one (texts_of units) checker c.in_ok-found.found.items c.in_ok-found.ensures) (own-files units c.args.program.now.numbered)
    c.sorted.ensures.ascending c.sorted.ensures.real c.sorted.ensures.same
