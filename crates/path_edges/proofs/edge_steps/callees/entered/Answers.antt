use Rattle.std.proofs.Common.{[], false}
use Rattle.path_edges.specs.EdgeSteps.Steps.{frame_edge}
use Rattle.path_edges.proofs.EdgeSteps.Lists.{mapped-next}
use Rattle.path_edges.proofs.edge_steps.callees.entered.Goals as goal

pub loop-entry-preserved : goal.loop-entry-preserved
loop-entry-preserved c =
    mapped-next (frame_edge false c.args.function c.args.block) c.args.entries.now c.loop-entry.entry-index c.entry-item.result [] c.loop-entry.edges.items c.push.new.self.items c.called_edge.result
    c.loop-entry-test.true c.entry-item.is c.loop-entry.invariant c.in_ok-push.ensures.items c.called_edge.ensures
