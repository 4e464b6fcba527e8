use Rattle.std.proofs.Common.{sym, subst}
use Rattle.saturation.proofs.EdgeReports.ShownEdges.{nothing-shown}
use Rattle.function_tables.specs.EngineTables.Known.{IsFrame, checker_in, texts_in, graphs_in, objects_in}
use Rattle.function_tables.proofs.EngineTables.Places.{if-ok, if-some}
use Rattle.least_set.specs.Logs.{IsExactly}
use Rattle.path_edges.specs.Relations.{ShowsAt}
use Rattle.saturation.proofs.edge_reports.edges.shown.Goals as goal

pub returns-in-Some : goal.returns-in-Some
returns-in-Some c =
    if-ok _ _ c.shown_in.result (λ list x k. x k (if-some (IsFrame c.args.tables.now c.args.edge.now.context.function) c.frame.result _ c.in-Some.is c.frame.ensures.there)) c.shown_in.ensures

pub returns-in-None : goal.returns-in-None
returns-in-None c =
    let t = c.args.tables.now in
    let e = c.args.edge.now in
    λ k. subst (λ l. IsExactly l (ShowsAt (checker_in t) (texts_in t) (graphs_in t) (objects_in t) e)) (sym c.new.ensures.items)
    (nothing-shown (checker_in t) (texts_in t) (graphs_in t) (objects_in t) e (c.frame.ensures.missing c.in-None.is k))
