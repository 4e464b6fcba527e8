use Rattle.path_edges.proofs.EdgeSteps.Lists.{given-next}
use Rattle.least_set.specs.Logs.{IsExactly, SomeGives}
use Rattle.least_set.proofs.Growing.{all_of}
use Rattle.edge_rules.specs.WaitRules.Waiters.{IsWaiting}
use Rattle.edge_rules.proofs.wait_rules.at_calls.waits_of_all.Goals as goal

pub loop-tuple-preserved : goal.loop-tuple-preserved
loop-tuple-preserved c =
    let call = c.args.call.now in
    λ k s h d is. given-next (IsWaiting k s h call.caller_objects.now.keys call.callee_objects.now.keys call.callee call.behind c.args.edge.now) c.args.tuples.now c.loop-tuple.tuple-index c.tuple-item.result c.loop-tuple.waits.items c.in_ok-found.found.items
    c.append.new.self.items c.loop-tuple-test.true c.tuple-item.is (c.loop-tuple.invariant k s h d is) (c.in_ok-found.ensures k s h d is) c.in_ok-append.ensures.items

pub returns : goal.returns
returns c =
    let call = c.args.call.now in
    λ k s h d is. all_of (λ l. IsExactly c.loop-tuple.waits.items (SomeGives (IsWaiting k s h call.caller_objects.now.keys call.callee_objects.now.keys call.callee call.behind c.args.edge.now) l)) c.args.tuples.now c.loop-tuple.tuple-index
    c.loop-tuple-test.false c.loop-tuple.auto.tuple-index-end (c.loop-tuple.invariant k s h d is)
