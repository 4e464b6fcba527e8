use Rattle.std.proofs.Common.{List, Contains, sym, subst}
use Rattle.function_tables.proofs.EngineTables.Places.{if-ok}
use Rattle.least_set.specs.Logs.{IsExactly}
use Rattle.numbered_engine.specs.Showing.{shown_at}
use Rattle.row_flows.specs.declared.behind.Firing.{Firing}
use Rattle.suffix_summary.proofs.EdgeReports.SayingEdges.{shows-exactly}
use Rattle.suffix_summary.proofs.edge_reports.edges.shown.Goals as goal

pub returns : goal.returns
returns g c =
    let t = c.args.tables.now in
    let p = c.args.engine.now.program.now in
    let e = c.args.edge.now in
    let firings = c.as_slice.result.now in
    let noted : IsExactly firings (Contains (shown_at p e)) = subst (λ (l : List Firing). IsExactly l (Contains (shown_at p e))) (sym c.as_slice.ensures.value) c.in_ok-firings.ensures in
    if-ok _ _ c.said_at_edge.result (λ list said states k. shows-exactly t states p e firings list.items noted (said states k)) c.said_at_edge.ensures
