use Rattle.std.proofs.Common.{map, take}
use Rattle.known_objects.proofs.listing.add_calls_of.Given as goal
use Rattle.known_objects.specs.Listed.{call_in, AreNumbered, IsCallFrom}
use Rattle.least_set.specs.Logs.{Adds, SomeGives}

-- those of the calls before this one were put last
abbrev pub invariant-loop-call : goal.invariant-loop-call
invariant-loop-call l = record {
  calls : Adds (SomeGives (IsCallFrom l.function) (take l.call-index l.call-items)) (map call_in l.fn.calls.items) (map call_in l.calls.items);
  numbered : AreNumbered l.calls.items;
}
