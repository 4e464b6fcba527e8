use Rattle.std.proofs.Common.{◌∙◌, map, sym, subst}
use Rattle.std.proofs.lemmas.Option.{none-some, same_Some}
use Rattle.flow_graph.specs.Seen.{graph_in}
use Rattle.function_tables.proofs.EngineTables.Places.{if-ok}
use Rattle.least_set.specs.Logs.{Adds}
use Rattle.suffix_summary.specs.MetStates.{GivesBound}
use Rattle.suffix_summary.proofs.met_states.edges.add_at_index.Goals as goal

pub returns-in-Some : goal.returns-in-Some
returns-in-Some c =
    let gs = map (λ t. graph_in t.graph.now) c.args.tables.now in
    let there = sym c.get.ensures ∙ c.in-Some.is in
    if-ok _ _ c.add_at_edge.result
    (λ u added k ts e apart are at.
    subst (λ x. Adds (GivesBound k ts gs c.args.program.now x) c.args.found.now.items c.add_at_edge.new.found.items) (same_Some _ _ (sym there ∙ at)) (added k ts apart are))
    c.add_at_edge.ensures

pub returns-in-None : goal.returns-in-None
returns-in-None c = λ k ts e apart are at. absurd (none-some e (sym (sym c.get.ensures ∙ c.in-None.is) ∙ at))
