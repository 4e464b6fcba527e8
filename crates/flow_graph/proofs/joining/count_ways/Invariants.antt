use Rattle.std.proofs.Common.{◌≡◌, length}
use Rattle.flow_graph.proofs.joining.count_ways.Given as goal

abbrev pub invariant-loop-block : goal.invariant-loop-block
invariant-loop-block l = length l.counts.items ≡ length l.blocks
