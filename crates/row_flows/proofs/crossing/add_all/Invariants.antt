use Rattle.std.proofs.Common.{◌≡◌, ◌++◌, Contains, length}
use Rattle.std.specs.Vec.Iter.{into_iter_items, into_iter_len}
use Rattle.least_set.specs.Logs.{Adds}
use Rattle.row_flows.proofs.crossing.add_all.Given as goal

-- those that were gone through have been added
abbrev pub invariant-loop-value : goal.invariant-loop-value
invariant-loop-value g l = record {
  split : l.yielded ++ into_iter_items l.value-iterator ≡ into_iter_items l.initial.value-iterator;
  adds : Adds (Contains l.yielded) l.fn.set.keys l.set.keys;
  len : into_iter_len l.value-iterator ≡ length (into_iter_items l.value-iterator);
}
