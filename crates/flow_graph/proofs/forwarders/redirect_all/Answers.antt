use Rattle.std.proofs.Common.{◌≡◌, ◌∷◌, [], ◌++◌, length, map, sym, ap, ◌∙◌, append_assoc, append-nil, arith}
use Rattle.std.specs.Vec.Iter.{into_iter_items}
use Rattle.flow_graph.specs.CPaths.Forwarders.{redirected}
use Rattle.flow_graph.specs.Targets.{target_of}
use Rattle.flow_graph.specs.Values.{blocks_of}
use Rattle.flow_graph.proofs.Yielding.{nothing_left, redirected_step}
use Rattle.flow_graph.proofs.forwarders.redirect_all.Goals as goal

pub loop-block-preserved : goal.loop-block-preserved
loop-block-preserved c =
    let at = c.loop-block in
    let x = c.in-Some.block in
    let steps : into_iter_items at.block-iterator ≡ x ∷ into_iter_items c.next.new.self = c.in-Some.ensures.steps.0 in record {
      split = append_assoc at.yielded (x ∷ []) _ ∙ rw (← steps) at.invariant.split;
      len = let was = at.invariant.len in
          let gone = c.in-Some.ensures.steps.1 in
          let short = ap length steps in
          omega arith;
      redirected = rw c.in_ok-push.ensures.items (redirected_step _ at.straight.items at.yielded _ x at.invariant.redirected c.in_ok-block.ensures);
    }

pub returns : goal.returns
returns c =
    let at = c.loop-block in
    let none = c.in-None.ensures.steps in
    let empty : into_iter_items at.block-iterator ≡ [] = nothing_left _ (sym at.invariant.len ∙ none.0) in
    let all = sym (append-nil at.yielded) ∙ rw empty at at.invariant.split ∙ c.into_iter-block-iterator.ensures.into_iter_gives.0 in
    at.invariant.redirected ∙ ap (λ bs. map (redirected (target_of c.args.finals.now)) (blocks_of bs)) all
