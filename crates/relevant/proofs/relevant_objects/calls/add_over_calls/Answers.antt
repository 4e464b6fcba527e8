use Rattle.least_set.proofs.Growing.{adds_nothing}
use Rattle.relevant.specs.RelevantObjects.Links.{LinksOver}
use Rattle.relevant.proofs.RelevantObjects.Adding.{next-added}
use Rattle.relevant.proofs.relevant_objects.calls.add_over_calls.Goals as goal

pub loop-call-init : goal.loop-call-init
loop-call-init c = adds_nothing (LinksOver c.args.depth c.args.member.now) c.args.found.now.items

pub loop-call-preserved : goal.loop-call-preserved
loop-call-preserved c =
    next-added (LinksOver c.args.depth c.args.member.now) c.as_slice-call-items.result.now c.loop-call.call-index c.call-item.result c.args.found.now.items c.loop-call.found.items c.add_over.new.found.items
    c.loop-call-test.true c.call-item.is c.loop-call.invariant c.in_ok-add_over.ensures
