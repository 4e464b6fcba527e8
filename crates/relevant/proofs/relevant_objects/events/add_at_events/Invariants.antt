use Rattle.std.proofs.Common.{take}
use Rattle.least_set.specs.Logs.{Adds, SomeGives}
use Rattle.relevant.specs.RelevantObjects.Links.{LinksAt, HasItself}
use Rattle.relevant.proofs.relevant_objects.events.add_at_events.Given as goal

-- what the events before this one link to was put behind, and the object itself is there once it stays
abbrev pub invariant-loop-event : goal.invariant-loop-event
invariant-loop-event l = record {
  adds : Adds (SomeGives (LinksAt l.depth l.row.unit.now l.member) (take l.event-index l.event-items)) l.fn.found.items l.found.items;
  there : HasItself l.depth l.stays l.member l.found.items;
}
