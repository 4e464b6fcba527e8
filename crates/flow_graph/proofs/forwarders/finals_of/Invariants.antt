use Rattle.flow_graph.specs.Finals.{AreFinal}
use Rattle.flow_graph.specs.Values.{blocks_of}
use Rattle.flow_graph.proofs.forwarders.finals_of.Given as goal

abbrev pub invariant-loop-number : goal.invariant-loop-number
invariant-loop-number l = AreFinal (blocks_of l.blocks) l.finals.items
