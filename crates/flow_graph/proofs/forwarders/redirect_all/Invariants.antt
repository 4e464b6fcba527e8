use Rattle.std.proofs.Common.{◌≡◌, ◌++◌, map, length}
use Rattle.std.specs.Vec.Iter.{into_iter_items, into_iter_len}
use Rattle.flow_graph.specs.CPaths.Forwarders.{redirected}
use Rattle.flow_graph.specs.Targets.{target_of}
use Rattle.flow_graph.specs.Values.{blocks_of}
use Rattle.flow_graph.proofs.forwarders.redirect_all.Given as goal

-- the blocks that were gone through are redirected
abbrev pub invariant-loop-block : goal.invariant-loop-block
invariant-loop-block l = record {
  split : l.yielded ++ into_iter_items l.block-iterator ≡ into_iter_items l.initial.block-iterator;
  len : into_iter_len l.block-iterator ≡ length (into_iter_items l.block-iterator);
  redirected : blocks_of l.straight.items ≡ map (redirected (target_of l.finals)) (blocks_of l.yielded);
}
