use Rattle.path_edges.specs.EdgeSteps.Steps.{edge_at}
use Rattle.path_edges.proofs.EdgeSteps.Lists.{mapped-next}
use Rattle.path_edges.proofs.edge_steps.next_blocks.add_edges.Goals as goal

pub loop-tuple-preserved : goal.loop-tuple-preserved
loop-tuple-preserved c =
    mapped-next (edge_at c.args.edge.now c.args.block) c.args.tuples.now c.loop-tuple.tuple-index c.tuple-item.result c.args.edges.now.items c.loop-tuple.edges.items c.push.new.self.items c.edge_at.result
    c.loop-tuple-test.true c.tuple-item.is c.loop-tuple.invariant c.in_ok-push.ensures.items c.edge_at.ensures
