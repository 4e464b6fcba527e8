use Rattle.known_objects.proofs.pairs.entries.Goals as goal
use Rattle.known_objects.specs.Linked.{entry_at}
use Rattle.known_search.proofs.Lists.{mapped-next}

pub loop-object-preserved : goal.loop-object-preserved
loop-object-preserved c =
    mapped-next (entry_at c.args.call.now) c.args.objects.now c.loop-object.object-index c.object-item.result c.loop-object.list.items c.push.new.self.items
    (record { call = c.args.call.now.number; callee = c.args.call.now.call.callee; object = c.copy.result })
    c.loop-object-test.true c.object-item.is c.loop-object.invariant c.in_ok-push.ensures.items
    (λ i. record { call = c.args.call.now.number; callee = c.args.call.now.call.callee; object = c.copy.ensures i })
