use Rattle.std.proofs.Common.{◌≡◌, length}
use Rattle.flow_graph.proofs.joining.note_end.Given as goal

abbrev pub invariant-loop-target : goal.invariant-loop-target
invariant-loop-target l = length l.counts ≡ length l.fn.counts
