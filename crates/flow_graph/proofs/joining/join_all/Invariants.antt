use Rattle.std.proofs.Common.{◌≡◌, length}
use Rattle.flow_graph.specs.Values.{blocks_of}
use Rattle.flow_graph.specs.Joins.{IsJoined}
use Rattle.flow_graph.proofs.joining.join_all.Given as goal

abbrev pub invariant-loop-number : goal.invariant-loop-number
invariant-loop-number l = record {
  same : length l.taken.items ≡ length l.blocks.items;
  joined : IsJoined (blocks_of l.fn.blocks.items) (blocks_of l.blocks.items);
}
