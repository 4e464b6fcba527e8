use Rattle.std.proofs.Common.{◌≡◌, ◌++◌, Contains, length}
use Rattle.std.specs.Vec.Iter.{into_iter_items, into_iter_len}
use Rattle.least_set.specs.Logs.{Adds}
use Rattle.least_set.proofs.logs.add_all.Given as goal

-- those that were gone through have been added
abbrev pub invariant-loop-member : goal.invariant-loop-member
invariant-loop-member g l = record {
  split : l.yielded ++ into_iter_items l.member-iterator ≡ into_iter_items l.initial.member-iterator;
  adds : Adds (Contains l.yielded) (g.L.Log.keys l.fn.log) (g.L.Log.keys l.log);
  len : into_iter_len l.member-iterator ≡ length (into_iter_items l.member-iterator);
}
