use Rattle.std.proofs.Common.{◌≤◌, map}
use Rattle.known_objects.proofs.listing.calls_of.Given as goal
use Rattle.known_objects.specs.Listed.{call_in, AreNumbered, SomeIsCallIn}
use Rattle.least_set.specs.Logs.{IsExactly}

-- those of the functions before this one
abbrev pub invariant-loop-function : goal.invariant-loop-function
invariant-loop-function l = record {
  calls : IsExactly (map call_in l.calls.items) (SomeIsCallIn l.rows l.function);
  numbered : AreNumbered l.calls.items;
  within : l.function ≤ l.count;
}
