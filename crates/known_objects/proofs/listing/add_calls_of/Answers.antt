use Rattle.std.proofs.Common.{map}
use Rattle.known_objects.proofs.Listings.{next-pushed}
use Rattle.known_objects.proofs.listing.add_calls_of.Goals as goal
use Rattle.known_objects.specs.Listed.{call_in, IsCallFrom}
use Rattle.least_set.proofs.Growing.{adds_nothing}

pub loop-call-init : goal.loop-call-init
loop-call-init c = record {
  calls = adds_nothing (IsCallFrom c.args.function) (map call_in c.args.calls.now.items);
  numbered = c.requires;
}

pub loop-call-preserved : goal.loop-call-preserved
loop-call-preserved c = record {
  calls =
      next-pushed (IsCallFrom c.args.function) c.as_slice-call-items.result.now c.loop-call.call-index c.call-item.result (map call_in c.args.calls.now.items) (map call_in c.loop-call.calls.items)
      (map call_in c.add_call.new.calls.items) c.loop-call-test.true c.call-item.is c.loop-call.invariant.calls c.in_ok-add_call.ensures.calls;
  numbered = c.in_ok-add_call.ensures.numbered;
}
