use Rattle.std.proofs.Common.{◌∙◌, sym, subst}
use Rattle.std.proofs.lemmas.Option.{none-some, same_Some}
use Rattle.function_tables.proofs.EngineTables.Places.{if-ok}
use Rattle.least_set.specs.Logs.{IsExactly}
use Rattle.suffix_summary.specs.EdgeReports.Shown.{ShowsIn}
use Rattle.suffix_summary.proofs.edge_reports.edges.shown_at.Goals as goal

pub returns-in-Some : goal.returns-in-Some
returns-in-Some g c =
    let there = sym c.get.ensures ∙ c.in-Some.is in
    if-ok _ _ c.shown.result
    (λ list shows states e k at. subst (λ x. IsExactly list.items (ShowsIn c.args.tables.now states c.args.engine.now.program.now x)) (same_Some _ _ (sym there ∙ at)) (shows states k))
    c.shown.ensures

pub returns-in-None : goal.returns-in-None
returns-in-None g c = λ states e k at. absurd (none-some e (sym (sym c.get.ensures ∙ c.in-None.is) ∙ at))
