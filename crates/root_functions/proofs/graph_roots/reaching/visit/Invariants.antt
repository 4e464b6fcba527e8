use Rattle.std.proofs.Common.{◌-◌, ◌≤◌, ◌^◌, length}
use Rattle.root_functions.proofs.GraphRoots.Visiting.{Visits}
use Rattle.root_functions.proofs.graph_roots.reaching.visit.Given as goal

-- the functions before i are worked off
abbrev pub invariant-loop-i : goal.invariant-loop-i
invariant-loop-i l = record {
  visits : Visits l.callees.items l.fn.reached.keys l.root l.i l.reached.keys;
  below : l.i ≤ length l.reached.keys;
}

abbrev pub decreases-loop-i : goal.decreases-loop-i
decreases-loop-i l = 2 ^ 64 - l.i
