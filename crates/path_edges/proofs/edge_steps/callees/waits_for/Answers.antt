use Rattle.std.proofs.Common.{[]}
use Rattle.path_edges.specs.EdgeSteps.Steps.{wait_for}
use Rattle.path_edges.proofs.EdgeSteps.Lists.{mapped-next}
use Rattle.path_edges.proofs.edge_steps.callees.waits_for.Goals as goal

pub loop-entry-preserved : goal.loop-entry-preserved
loop-entry-preserved c =
    mapped-next (wait_for c.args.edge.now c.args.function c.args.behind) c.args.entries.now c.loop-entry.entry-index c.entry-item.result [] c.loop-entry.waits.items c.push.new.self.items c.wait_for.result
    c.loop-entry-test.true c.entry-item.is c.loop-entry.invariant c.in_ok-push.ensures.items c.wait_for.ensures
