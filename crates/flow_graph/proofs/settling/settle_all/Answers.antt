use Rattle.std.proofs.Common.{◌≡◌, ◌∷◌, [], ◌++◌, List, length, map, refl, sym, ap, subst, ◌∙◌, append_assoc, append-nil, arith}
use Rattle.std.specs.Vec.Iter.{into_iter_items}
use Rattle.flow_graph.specs.CPaths.Building.{settled}
use Rattle.flow_graph.specs.Values.{block_of, blocks_of, draft_of, drafts_of}
use Rattle.flow_graph.proofs.Yielding.{nothing_left, settled_step}
use Rattle.flow_graph.proofs.settling.settle_all.Goals as goal

pub loop-draft-preserved : goal.loop-draft-preserved
loop-draft-preserved c =
    let at = c.loop-draft in
    let x = c.in-Some.draft in
    let steps : into_iter_items at.draft-iterator ≡ x ∷ into_iter_items c.next.new.self = c.in-Some.ensures.steps.0 in record {
      split = append_assoc at.yielded (x ∷ []) _ ∙ rw (← steps) at.invariant.split;
      len = let was = at.invariant.len in
          let gone = c.in-Some.ensures.steps.1 in
          let short = ap length steps in
          omega arith;
      settled = rw c.in_ok-push.ensures.items (settled_step _ at.blocks.items at.yielded _ x at.invariant.settled c.in_ok-block.ensures);
    }

pub returns : goal.returns
returns c =
    let at = c.loop-draft in
    let none = c.in-None.ensures.steps in
    let empty : into_iter_items at.draft-iterator ≡ [] = nothing_left _ (sym at.invariant.len ∙ none.0) in
    let all = sym (append-nil at.yielded) ∙ rw empty at at.invariant.split ∙ c.into_iter-draft-iterator.ensures.into_iter_gives.0 in
    at.invariant.settled ∙ ap (λ ds. map (settled c.args.labels.now) (drafts_of ds)) all
