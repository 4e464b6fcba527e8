use Rattle.relevant.proofs.RelevantLists.ByFunction.{lists-next, lists-all}
use Rattle.relevant.proofs.relevant_lists.filing.empty_lists.Goals as goal

pub loop-preserved : goal.loop-preserved
loop-preserved c = lists-next c.loop.lists.items c.push.new.self.items c.new.result c.loop.counter c.in_ok-push.ensures.items c.new.ensures.items c.loop.invariant

pub returns : goal.returns
returns c = lists-all c.loop.lists.items c.loop.counter c.args.count c.loop.auto.counter-end c.loop-test.false c.loop.invariant
