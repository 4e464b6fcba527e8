use Rattle.std.proofs.Common.{◌≤◌, ◌<◌, arith, [], length, map, sym, subst, get_or}
use Rattle.std.proofs.lemmas.Grind.{common_steps}
use Rattle.std.proofs.lemmas.Option.{slice_get-get_or}
use Rattle.flow_graph.specs.Seen.{graph_in}
use Rattle.least_set.specs.Logs.{Adds, SomeGives}
use Rattle.least_set.proofs.Growing.{adds_next, adds_nothing, all_of}
use Rattle.numbered_engine.specs.declared.edges.NumberedEdge.{NumberedEdge}
use Rattle.row_flows.specs.declared.tuples.NumberedTuple.{NumberedTuple}
use Rattle.suffix_summary.proofs.MetStates.MetEdges.{all-bound}
use Rattle.suffix_summary.specs.MetStates.{GivesBound}
use Rattle.suffix_summary.proofs.met_states.edges.bound_where_met.Goals as goal

abbrev no_tuple : NumberedTuple
no_tuple = record { global = 0; state = 0; object = 0 }

abbrev zero : NumberedEdge
zero = record { context = record { function = 0; entry = no_tuple }; block = 0; tuple = no_tuple }

pub loop-index-init : goal.loop-index-init
loop-index-init c = record {
  gives = λ k ts apart are.
      let G = GivesBound k ts (map (λ t. graph_in t.graph.now) c.args.tables.now) c.args.program.now in
      subst (λ l. Adds (SomeGives G []) [] l) (sym c.new-found.ensures.items) (adds_nothing G []);
  within = omega arith;
}

pub loop-index-preserved : goal.loop-index-preserved
loop-index-preserved c =
    let at = c.loop-index in
    let xs = c.args.log.now.keys in
    let within : at.index < length xs = grind (arith, common_steps) in
    record {
      gives = λ k ts apart are.
          let G = GivesBound k ts (map (λ t. graph_in t.graph.now) c.args.tables.now) c.args.program.now in
          adds_next G xs at.index zero within (at.invariant.gives k ts apart are) (c.in_ok-add_at_index.ensures k ts (get_or xs at.index zero) apart are (slice_get-get_or xs at.index zero within));
      within = grind (arith, within);
    }

pub returns : goal.returns
returns c = λ k ts apart are.
    let at = c.loop-index in
    let xs = c.args.log.now.keys in
    let gs = map (λ t. graph_in t.graph.now) c.args.tables.now in
    let all : length xs ≤ at.index = grind (arith, common_steps) in
    all-bound k ts apart gs c.args.program.now xs at.found.items
    (all_of (λ l. Adds (SomeGives (GivesBound k ts gs c.args.program.now) l) [] at.found.items) xs at.index all at.invariant.within (at.invariant.gives k ts apart are))
