use Rattle.std.proofs.Common.{◌≡◌, None}
use Rattle.path_edges.specs.EdgeSteps.Steps.{put_back, woken_edge}
use Rattle.least_set.specs.Logs.{IsExactly, SomeGives}
use Rattle.least_set.proofs.Growing.{all_of}
use Rattle.state_tuples.specs.declared.tuple.Tuple.{Tuple}
use Rattle.block_flows.proofs.TupleFlows.Lists.{given-next, given-past}
use Rattle.edge_rules.proofs.WaitRules.OneTuple.{empty, not-empty}
use Rattle.edge_rules.proofs.wait_rules.at_ends.with_put_back.Goals.{then-is_none+in_ok-push, else-is_none}
use Rattle.edge_rules.proofs.wait_rules.at_ends.with_put_back.Goals as goal

pub loop-tuple-preserved : goal.loop-tuple-preserved
loop-tuple-preserved c =
    let P = λ (t : Tuple). t.object ≡ None in
    let F = λ (t : Tuple). woken_edge c.args.waiter.now (put_back t c.args.object.now c.args.state) in
    let xs = c.args.tuples.now in
    let at = c.loop-tuple in
    let x = c.tuple-item.result in
    elim c.if-is_none.branch [
      | then-is_none+in_ok-push w ↦ rw w.edges-is (rw w.in_ok-push.ensures.items
          (given-next P F xs at.tuple-index x at.edges.items c.loop-tuple-test.true c.tuple-item.is at.invariant w.put_back_edge.result (empty x.object c.is_none.result c.is_none.ensures w.if-is_none.true) w.put_back_edge.ensures))
      | else-is_none w ↦ rw w.edges-is (given-past P F xs at.tuple-index x at.edges.items c.loop-tuple-test.true c.tuple-item.is at.invariant (not-empty x.object c.is_none.result c.is_none.ensures w.if-is_none.false))
    ]

pub returns : goal.returns
returns c = all_of (λ l. IsExactly c.loop-tuple.edges.items (SomeGives (λ t d. (t.object ≡ None) × (woken_edge c.args.waiter.now (put_back t c.args.object.now c.args.state) ≡ d)) l)) c.args.tuples.now
    c.loop-tuple.tuple-index c.loop-tuple-test.false c.loop-tuple.auto.tuple-index-end c.loop-tuple.invariant
