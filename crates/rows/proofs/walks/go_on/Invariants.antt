use Rattle.std.proofs.Common.{◌≤◌, length}
use Rattle.rows.proofs.walks.go_on.Given as goal

abbrev pub invariant-loop-left : goal.invariant-loop-left
invariant-loop-left l = l.left ≤ length l.targets

abbrev pub decreases-loop-left : goal.decreases-loop-left
decreases-loop-left l = l.left
