use Rattle.std.proofs.Common.{◌≡◌, List, [], length, sym, subst}
use Rattle.std.proofs.lemmas.Bool.{eqb-true}
use Rattle.std.proofs.lemmas.List.{nil_from_length}
use Rattle.function_tables.proofs.EngineTables.Places.{if-ok, if-some}
use Rattle.function_tables.specs.EngineTables.Known.{IsFrame}
use Rattle.least_set.proofs.Growing.{nothing}
use Rattle.least_set.specs.Logs.{IsExactly, SomeGives}
use Rattle.row_flows.specs.declared.behind.Firing.{Firing}
use Rattle.suffix_summary.proofs.EdgeReports.SayingEdges.{nowhere-said}
use Rattle.suffix_summary.specs.EdgeReports.Shown.{SaysAtEdge}
use Rattle.suffix_summary.proofs.edge_reports.edges.said_at_edge.Goals as goal

pub returns-in-Some : goal.returns-in-Some
returns-in-Some c =
    if-ok _ _ c.said_in.result (λ list x states k. x states k (if-some (IsFrame c.args.tables.now c.args.edge.now.context.function) c.frame.result _ c.in-Some.is c.frame.ensures.there)) c.said_in.ensures

pub returns-in-None : goal.returns-in-None
returns-in-None c =
    let t = c.args.tables.now in
    let e = c.args.edge.now in
    λ states k. subst (λ l. IsExactly l (SomeGives (SaysAtEdge t states e) c.args.firings.now)) (sym c.new-in-None.ensures.items)
    (nowhere-said t states e c.args.firings.now (c.frame.ensures.missing c.in-None.is k))

-- no firings say nothing
pub returns-then-is_empty : goal.returns-then-is_empty
returns-then-is_empty c =
    let t = c.args.tables.now in
    let e = c.args.edge.now in
    let none : c.args.firings.now ≡ [] = nil_from_length c.args.firings.now (eqb-true (length c.args.firings.now) 0 (sym c.if-is_empty.ensures)) in
    λ states k. subst (λ l. IsExactly l (SomeGives (SaysAtEdge t states e) c.args.firings.now)) (sym c.new.ensures.items)
    (subst (λ (fs : List Firing). IsExactly [] (SomeGives (SaysAtEdge t states e) fs)) (sym none) (λ r m. absurd (nothing r m), λ r s. absurd (nothing s.0 s.1)))
