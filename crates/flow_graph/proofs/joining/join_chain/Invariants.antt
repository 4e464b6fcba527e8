use Rattle.std.proofs.Common.{◌≡◌, ◌<◌, length}
use Rattle.flow_graph.specs.Values.{blocks_of}
use Rattle.flow_graph.specs.Joins.{IsJoined}
use Rattle.flow_graph.proofs.joining.join_chain.Given as goal

abbrev pub invariant-loop-turn : goal.invariant-loop-turn
invariant-loop-turn l = record {
  within : l.number < length l.blocks.items;
  joined : IsJoined (blocks_of l.fn.blocks.items) (blocks_of l.blocks.items);
}
