use Rattle.std.proofs.Common.{◌∙◌, map, sym}
use Rattle.flow_graph.specs.Seen.{graph_in}
use Rattle.function_tables.proofs.EngineTables.Places.{if-ok}
use Rattle.suffix_summary.proofs.MetStates.MetEdges.{both-kinds, called-alone}
use Rattle.suffix_summary.proofs.met_states.edges.add_at_edge.Goals as goal

pub returns-then-not-is_own : goal.returns-then-not-is_own
returns-then-not-is_own c = λ k ts apart are.
    called-alone k ts apart (map (λ t. graph_in t.graph.now) c.args.tables.now) c.args.program.now c.args.edge.now c.args.found.now.items c.add_in_kind.new.found.items
    (sym c.is_own.ensures ∙ c.if-not-is_own.true) (c.in_ok-add_in_kind.ensures k ts apart are)

pub returns : goal.returns
returns c =
    if-ok _ _ c.add_in_kind-2.result
    (λ u added k ts apart are.
    both-kinds k ts apart (map (λ t. graph_in t.graph.now) c.args.tables.now) c.args.program.now c.args.edge.now c.args.found.now.items c.add_in_kind.new.found.items c.add_in_kind-2.new.found.items
    (sym c.is_own.ensures ∙ c.if-not-is_own.false) (c.in_ok-add_in_kind.ensures k ts apart are) (added k ts apart are))
    c.add_in_kind-2.ensures
