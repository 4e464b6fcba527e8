use Rattle.std.proofs.Common.{[]}
use Rattle.path_edges.specs.EdgeSteps.Steps.{woken_edge}
use Rattle.path_edges.proofs.EdgeSteps.Lists.{mapped-next}
use Rattle.path_edges.proofs.edge_steps.callees.woken.Goals as goal

pub loop-tuple-preserved : goal.loop-tuple-preserved
loop-tuple-preserved c =
    mapped-next (woken_edge c.args.waiter.now) c.args.tuples.now c.loop-tuple.tuple-index c.tuple-item.result [] c.loop-tuple.edges.items c.push.new.self.items c.woken_edge.result
    c.loop-tuple-test.true c.tuple-item.is c.loop-tuple.invariant c.in_ok-push.ensures.items c.woken_edge.ensures
