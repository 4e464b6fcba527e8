use Rattle.std.proofs.Common.{◌≡◌, length, arith}
use Rattle.flow_graph.specs.Values.{blocks_of}
use Rattle.flow_graph.proofs.JoinedGraphs.{joined_same, joined_then}
use Rattle.flow_graph.proofs.TakenOver.{same_count}
use Rattle.flow_graph.proofs.joining.join_chain.Goals as goal

pub loop-turn-init : goal.loop-turn-init
loop-turn-init c = record { within = c.requires; joined = joined_same (blocks_of c.args.blocks.now.items) }

pub loop-turn-preserved : goal.loop-turn-preserved
loop-turn-preserved c =
    let at = c.loop-turn in
    let same : length c.take_over.new.blocks.items ≡ length at.blocks.items = same_count at.blocks.items c.take_over.new.blocks.items c.in_ok-take_over.ensures in record {
      within = let was = at.invariant.within in omega arith;
      joined = joined_then (blocks_of c.args.blocks.now.items) (blocks_of at.blocks.items) (blocks_of c.take_over.new.blocks.items) at.invariant.joined c.in_ok-take_over.ensures;
    }
