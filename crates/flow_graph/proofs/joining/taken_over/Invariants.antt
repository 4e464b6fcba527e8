use Rattle.std.proofs.Common.{◌≡◌, length}
use Rattle.flow_graph.proofs.joining.taken_over.Given as goal

abbrev pub invariant-loop-number : goal.invariant-loop-number
invariant-loop-number l = length l.taken.items ≡ length l.blocks
