use Rattle.flow_graph.specs.Values.{blocks_of}
use Rattle.flow_graph.proofs.FinalWays.{come_to_final}
use Rattle.flow_graph.proofs.forwarders.settle.Goals as goal

pub returns : goal.returns
returns c final =
    let g = blocks_of c.args.blocks.now in
    let walk = c.in_ok-walk.walk in
    c.note_all.ensures g final
    (come_to_final g c.args.finals.now walk.passed.items c.as_slice.result.now walk.end c.target_of-end.result final c.in_ok-walk.ensures c.target_of-end.ensures c.as_slice.ensures.value)
