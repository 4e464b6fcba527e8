use Rattle.known_objects.proofs.pairs.pairs.Goals as goal
use Rattle.path_model.specs.CheckerGraphs.Members.{member}
use Rattle.known_search.proofs.Lists.{mapped-next}

pub loop-object-preserved : goal.loop-object-preserved
loop-object-preserved c =
    mapped-next (member c.args.function) c.args.objects.now c.loop-object.object-index c.object-item.result c.loop-object.list.items c.push.new.self.items
    (c.args.function, c.copy.result)
    c.loop-object-test.true c.object-item.is c.loop-object.invariant c.in_ok-push.ensures.items
    (λ i. (c.args.function, c.copy.ensures i))
