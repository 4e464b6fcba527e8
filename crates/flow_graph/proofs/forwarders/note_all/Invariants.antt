use Rattle.std.proofs.Common.{List}
use Rattle.flow_graph.specs.CPaths.Graphs.{Block}
use Rattle.flow_graph.specs.Finals.{AreFinal, AllComeTo}
use Rattle.flow_graph.proofs.forwarders.note_all.Given as goal

abbrev pub invariant-loop-block : goal.invariant-loop-block
invariant-loop-block l = (g : List Block) → AreFinal g l.fn.finals → AllComeTo g l.end l.passed → AreFinal g l.finals
