use Rattle.std.proofs.Common.{sym, subst}
use Rattle.block_flows.proofs.TupleFlows.Lists.{if-ok}
use Rattle.function_tables.specs.EngineTables.Known.{AreKnown}
use Rattle.least_set.specs.Logs.{IsExactly, SomeGives}
use Rattle.suffix_summary.proofs.KnownEdges.{all-reported}
use Rattle.suffix_summary.specs.EdgeReports.Shown.{ShowsIn}
use Rattle.suffix_summary.specs.StandingRows.{AreStanding}
use Rattle.suffix_summary.proofs.tabulated_reports.reported.Goals as goal

pub returns : goal.returns
returns c =
    let known = c.args.known.now in
    let t = known.tables in
    let p = c.new-engine.result.program.now in
    let log = c.in_ok-log.log.keys in
    if-ok _ _ c.all_shown.result
    (λ list shown.
    all-reported t p log list.items c.in_ok-log.ensures.closed c.in_ok-log.ensures.only known.known
    (subst (λ q. AreKnown t → ∥ AreStanding t q ∥₁) (sym c.new-engine.ensures) c.in_ok-rows.ensures) c.requires
    (λ states k. subst (λ q. IsExactly list.items (SomeGives (ShowsIn t states q) log)) c.in_ok-log.ensures.same (shown states k)))
    c.all_shown.ensures
