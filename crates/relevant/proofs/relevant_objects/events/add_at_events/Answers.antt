use Rattle.relevant.specs.RelevantObjects.Links.{LinksAt}
use Rattle.relevant.proofs.RelevantObjects.Adding.{next-added}
use Rattle.relevant.proofs.relevant_objects.events.add_at_events.Goals as goal

pub loop-event-preserved : goal.loop-event-preserved
loop-event-preserved c = record {
  adds =
      next-added (LinksAt c.args.depth c.args.row.now.unit.now c.args.member.now) c.as_slice-event-items.result.now c.loop-event.event-index c.event-item.result c.args.found.now.items c.loop-event.found.items
      c.add_unless_there.new.found.items c.loop-event-test.true c.event-item.is c.loop-event.invariant.adds c.in_ok-stays.ensures.adds;
  there = c.in_ok-stays.ensures.there;
}
