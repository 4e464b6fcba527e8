use Rattle.flow_graph.specs.Values.{blocks_of}
use Rattle.flow_graph.proofs.FinalWays.{all_stay}
use Rattle.flow_graph.proofs.forwarders.finals_of.Goals as goal

pub loop-number-init : goal.loop-number-init
loop-number-init c = all_stay (blocks_of c.args.blocks.now) c.in_ok-finals.finals.items c.in_ok-finals.ensures.itself
