use Rattle.flow_graph.specs.Finals.{AllComeTo}
use Rattle.flow_graph.specs.Values.{blocks_of}
use Rattle.flow_graph.proofs.forwarders.walk_from.Given as goal

-- the way leads on from all that it went over
abbrev pub invariant-loop-turn : goal.invariant-loop-turn
invariant-loop-turn l = AllComeTo (blocks_of l.blocks) l.end l.passed.items
