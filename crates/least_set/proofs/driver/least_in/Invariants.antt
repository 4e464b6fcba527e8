use Rattle.std.proofs.Common.{◌≡◌, ◌-◌, ◌≤◌, ◌^◌, length, take}
use Rattle.least_set.specs.Indexes.{at}
use Rattle.least_set.specs.Counts.{counted_by}
use Rattle.least_set.proofs.TwoWorking.{Works}
use Rattle.least_set.proofs.driver.least_in.Given as goal

-- the members before i are worked off
abbrev pub invariant-loop-i : goal.invariant-loop-i
invariant-loop-i g l = record {
  works : Works (g.R.CachingRules.base (g.R.CachingRules.source l.fn.rules)) (g.R.CachingRules.goes (g.R.CachingRules.source l.fn.rules)) (g.R.CachingRules.waits (g.R.CachingRules.source l.fn.rules)) (g.R.CachingRules.ends (g.R.CachingRules.source l.fn.rules)) (g.R.CachingRules.wakes (g.R.CachingRules.source l.fn.rules)) l.i (g.L.Log.keys l.log) (at g.R.Context.PartialEq.eq l.waiting) (at g.R.Context.PartialEq.eq l.ended);
  same : g.R.CachingRules.source l.rules ≡ g.R.CachingRules.source l.fn.rules;
  asked : g.R.CachingRules.asked l.rules ≡ counted_by (g.R.CachingRules.counting (g.R.CachingRules.source l.fn.rules)) (take l.i (g.L.Log.keys l.log)) (g.R.CachingRules.asked l.fn.rules);
  below : l.i ≤ length (g.L.Log.keys l.log);
}

abbrev pub decreases-loop-i : goal.decreases-loop-i
decreases-loop-i g l = 2 ^ 64 - l.i
