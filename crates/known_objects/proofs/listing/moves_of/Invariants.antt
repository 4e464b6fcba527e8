use Rattle.std.proofs.Common.{◌≤◌}
use Rattle.known_objects.proofs.listing.moves_of.Given as goal
use Rattle.known_objects.specs.Listed.{SomeIsMoveIn}
use Rattle.least_set.specs.Logs.{IsExactly}

-- those of the functions before this one
abbrev pub invariant-loop-function : goal.invariant-loop-function
invariant-loop-function l = record {
  moves : IsExactly l.moves.items (SomeIsMoveIn l.depth l.rows l.function);
  within : l.function ≤ l.count;
}
