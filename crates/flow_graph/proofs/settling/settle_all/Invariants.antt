use Rattle.std.proofs.Common.{◌≡◌, ◌++◌, map, length}
use Rattle.std.specs.Vec.Iter.{into_iter_items, into_iter_len}
use Rattle.flow_graph.specs.CPaths.Building.{settled}
use Rattle.flow_graph.specs.Values.{blocks_of, drafts_of}
use Rattle.flow_graph.proofs.settling.settle_all.Given as goal

-- the drafts that were gone through are settled
abbrev pub invariant-loop-draft : goal.invariant-loop-draft
invariant-loop-draft l = record {
  split : l.yielded ++ into_iter_items l.draft-iterator ≡ into_iter_items l.initial.draft-iterator;
  len : into_iter_len l.draft-iterator ≡ length (into_iter_items l.draft-iterator);
  settled : blocks_of l.blocks.items ≡ map (settled l.labels) (drafts_of l.yielded);
}
