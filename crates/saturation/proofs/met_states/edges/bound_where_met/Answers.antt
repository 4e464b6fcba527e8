use Rattle.std.proofs.Common.{◌≡◌, [], ap, map, sym, subst, get_or}
use Rattle.flow_graph.specs.Seen.{graph_in}
use Rattle.least_set.specs.Logs.{Adds, SomeGives}
use Rattle.least_set.proofs.Growing.{adds_next, adds_nothing, all_of}
use Rattle.saturation.proofs.MetStates.MetEdges.{all-bound}
use Rattle.saturation.specs.MetStates.{GivesBound}
use Rattle.saturation.proofs.met_states.edges.bound_where_met.Goals as goal

pub loop-edge-init : goal.loop-edge-init
loop-edge-init c = λ k ts apart are.
    let G = GivesBound k ts (map (λ t. graph_in t.graph.now) c.args.tables.now) in
    subst (λ l. Adds (SomeGives G []) [] l) (sym c.new-found.ensures.items) (adds_nothing G [])

pub loop-edge-preserved : goal.loop-edge-preserved
loop-edge-preserved c = λ k ts apart are.
    let at = c.loop-edge in
    let G = GivesBound k ts (map (λ t. graph_in t.graph.now) c.args.tables.now) in
    let e = c.edge-item.result in
    adds_next G c.args.edges.now at.edge-index e c.loop-edge-test.true (at.invariant k ts apart are)
    (subst (λ x. Adds (G x) at.found.items c.add_at_edge.new.found.items) c.edge-item.is (c.in_ok-add_at_edge.ensures k ts apart are))

pub returns : goal.returns
returns c = λ k ts apart are.
    let at = c.loop-edge in
    let gs = map (λ t. graph_in t.graph.now) c.args.tables.now in
    all-bound k ts apart gs c.args.edges.now at.found.items
    (all_of (λ l. Adds (SomeGives (GivesBound k ts gs) l) [] at.found.items) c.args.edges.now at.edge-index c.loop-edge-test.false at.auto.edge-index-end (at.invariant k ts apart are))
