use Rattle.std.proofs.Common.{◌-◌, ◌≤◌, ◌^◌, length}
use Rattle.least_set.proofs.OneWorking.{Works}
use Rattle.least_set.proofs.one_premise.closure.Given as goal

-- the members before i are worked off
abbrev pub invariant-loop-i : goal.invariant-loop-i
invariant-loop-i g l = record {
  works : Works (g.S.Steps.base l.steps) (g.S.Steps.goes l.steps) l.i l.log.keys;
  below : l.i ≤ length l.log.keys;
}

abbrev pub decreases-loop-i : goal.decreases-loop-i
decreases-loop-i g l = 2 ^ 64 - l.i
