use Rattle.std.proofs.Common.{take}
use Rattle.known_objects.proofs.listing.add_moves_of.Given as goal
use Rattle.known_objects.specs.Listed.{IsMoveAt}
use Rattle.least_set.specs.Logs.{Adds, SomeGives}

-- those of the events before this one were put last
abbrev pub invariant-loop-event : goal.invariant-loop-event
invariant-loop-event l = Adds (SomeGives (IsMoveAt l.depth l.function l.row.unit) (take l.event-index l.event-items)) l.fn.moves.items l.moves.items
