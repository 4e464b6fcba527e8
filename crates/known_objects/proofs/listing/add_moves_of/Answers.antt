use Rattle.known_objects.proofs.Listings.{next-pushed}
use Rattle.known_objects.proofs.listing.add_moves_of.Goals as goal
use Rattle.known_objects.specs.Listed.{IsMoveAt}
use Rattle.least_set.proofs.Growing.{adds_nothing}

pub loop-event-init : goal.loop-event-init
loop-event-init c = adds_nothing (IsMoveAt c.args.depth c.args.function c.args.row.now.unit) c.args.moves.now.items

pub loop-event-preserved : goal.loop-event-preserved
loop-event-preserved c =
    next-pushed (IsMoveAt c.args.depth c.args.function c.args.row.now.unit) c.as_slice-event-items.result.now c.loop-event.event-index c.event-item.result c.args.moves.now.items c.loop-event.moves.items c.add_move.new.moves.items
    c.loop-event-test.true c.event-item.is c.loop-event.invariant c.in_ok-add_move.ensures
