use Rattle.std.proofs.Common.{arith}
use Rattle.flow_graph.specs.KeptBlocks.{renumbered}
use Rattle.flow_graph.specs.Seen.{graph_in}
use Rattle.flow_graph.specs.Targets.{target_of}
use Rattle.flow_graph.specs.Values.{block_of}
use Rattle.flow_graph.proofs.Yielding.{taken_step}
use Rattle.flow_graph.proofs.kept_blocks.renumber_all.Goals as goal

pub loop-number-preserved : goal.loop-number-preserved
loop-number-preserved c =
    let at = c.loop-number in
    let block = c.in_ok-block in
    rw c.in_ok-push.ensures.items
    (taken_step block_of (renumbered (target_of c.args.numbers.now) (graph_in c.args.graph.now).blocks) at.blocks.items c.args.kept.now at.number-index block.block 0 (omega arith) at.invariant block.ensures)
