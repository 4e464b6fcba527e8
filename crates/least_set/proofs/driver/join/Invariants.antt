use Rattle.std.proofs.Common.{◌≡◌, ◌++◌, length}
use Rattle.std.specs.Vec.Iter.{into_iter_items, into_iter_len}
use Rattle.least_set.specs.Logs.{Adds}
use Rattle.least_set.specs.Indexes.{at, Extends}
use Rattle.least_set.specs.TwoPremises.{Answers, Kept}
use Rattle.least_set.proofs.driver.join.Given as goal

-- the waiters that were gone through are kept and answered
abbrev pub invariant-loop-wait : goal.invariant-loop-wait
invariant-loop-wait g l = record {
  split : l.yielded ++ into_iter_items l.wait-iterator ≡ into_iter_items l.initial.wait-iterator;
  len : into_iter_len l.wait-iterator ≡ length (into_iter_items l.wait-iterator);
  adds : Adds (Answers (g.R.CachingRules.wakes (g.R.CachingRules.source l.rules)) (g.L.Log.keys l.fn.log) (at g.R.Context.PartialEq.eq l.ended) l.yielded) (g.L.Log.keys l.fn.log) (g.L.Log.keys l.log);
  extends : Extends (Kept l.yielded) (at g.R.Context.PartialEq.eq l.fn.waiting) (at g.R.Context.PartialEq.eq l.waiting);
}
