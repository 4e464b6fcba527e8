-- those so far, and those that are left, are all
use Rattle.std.proofs.Common.{◌≡◌, ◌++◌, ◌-◌, ◌≤◌}
use Rattle.std.specs.List.{range_with_len}
use Rattle.command.proofs.request.positions.Given as goal

abbrev pub invariant-loop-position : goal.invariant-loop-position
invariant-loop-position l = record {
  bound : l.position ≤ l.to;
  all : l.all.items ++ range_with_len l.position (l.to - l.position) ≡ range_with_len l.from (l.to - l.from);
}

abbrev pub decreases-loop-position : goal.decreases-loop-position
decreases-loop-position l = l.to - l.position
