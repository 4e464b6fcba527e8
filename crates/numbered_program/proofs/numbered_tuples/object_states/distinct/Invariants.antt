use Rattle.std.proofs.Common.{◌≤◌, [], take, length, Contains}
use Rattle.least_set.specs.Logs.{Adds}
use Rattle.numbered_program.proofs.numbered_tuples.object_states.distinct.Given as goal

-- those that were passed are there, and no more
abbrev pub invariant-loop-state : goal.invariant-loop-state
invariant-loop-state l = record {
  same : Adds (Contains (take l.state-index l.named)) [] l.states.keys;
  few : length l.states.keys ≤ l.state-index;
}
