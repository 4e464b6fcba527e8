use Rattle.std.proofs.Common.{◌≡◌, ◌<◌, [], map, inl, inr, sym, subst, arith}
use Rattle.std.proofs.lemmas.Grind.{common_steps}
use Rattle.flow_graph.specs.Seen.{graph_in}
use Rattle.least_set.proofs.Growing.{either, nothing}
use Rattle.least_set.specs.Logs.{Adds}
use Rattle.suffix_summary.proofs.MetStates.StartGifts.{below-next, below-none}
use Rattle.suffix_summary.specs.InStart.{GivesBelow}
use Rattle.suffix_summary.proofs.met_states.start.bound_in_start.Goals as goal

pub loop-function-init : goal.loop-function-init
loop-function-init c = record {
  gives = λ k ts are.
      let gs = map (λ t. graph_in t.graph.now) c.args.tables.now in
      subst (Adds (GivesBelow k ts gs 0) []) (sym c.new-found.ensures.items) (below-none k ts gs);
  within = omega arith;
}

pub loop-function-preserved : goal.loop-function-preserved
loop-function-preserved c =
    let at = c.loop-function in
    let further : at.function < c.args.count = grind (arith, common_steps) in
    record {
      gives = λ k ts are. below-next k ts (map (λ t. graph_in t.graph.now) c.args.tables.now) at.function (at.invariant.gives k ts are) (c.in_ok-add_at.ensures k ts are);
      within = grind (arith, further);
    }

pub returns : goal.returns
returns c =
    let at = c.loop-function in
    let end : at.function ≡ c.args.count = grind (arith, common_steps) in
    λ k ts are.
    let gs = map (λ t. graph_in t.graph.now) c.args.tables.now in
    let v = subst (λ n. Adds (GivesBelow k ts gs n) [] at.found.items) end (at.invariant.gives k ts are) in (
      λ y m. elim (either v y m) [ inl n ↦ absurd (nothing y n) | inr g ↦ g ],
      λ y g. v.added y g,
    )
