use Rattle.std.proofs.Common.{subst}
use Rattle.function_tables.specs.EngineTables.Known.{AreKnown, checker_in, texts_in, graphs_in, objects_in}
use Rattle.least_set.specs.Logs.{IsExactly, SomeGives}
use Rattle.path_edges.specs.Relations.{ShowsAt}
use Rattle.saturation.proofs.TabulationEngine.AllReports.{all-reports}
use Rattle.block_flows.proofs.TupleFlows.Lists.{if-ok}
use Rattle.saturation.proofs.tabulation_engine.least_log.reported.Goals as goal

pub returns : goal.returns
returns c =
    let e = c.args.engine.now in
    let t = e.tables in
    if-ok _ _ c.all_shown.result
    (λ list shown.
    all-reports t c.in_ok-log.log.keys list.items c.least_edges_report.ensures e.known c.requires c.in_ok-log.ensures.closed c.in_ok-log.ensures.only
    (subst (λ l. AreKnown t → IsExactly list.items (SomeGives (ShowsAt (checker_in t) (texts_in t) (graphs_in t) (objects_in t)) l)) c.as_slice.ensures.keys shown))
    c.all_shown.ensures
