use Rattle.std.proofs.Common.{◌≡◌, map}
use Rattle.least_set.proofs.Growing.{all_of}
use Rattle.block_flows.specs.TupleFlows.Behind.{chosen_tuple}
use Rattle.block_flows.proofs.TupleFlows.Lists.{mapped-next}
use Rattle.block_flows.proofs.tuple_flows.behind.chosen_each.Goals as goal

pub loop-tuple-preserved : goal.loop-tuple-preserved
loop-tuple-preserved c = λ k h f a. mapped-next (chosen_tuple k h f c.args.is_root c.args.next) c.args.tuples.now c.loop-tuple.tuple-index c.tuple-item.result c.loop-tuple.list.items
    c.push.new.self.items c.chosen.result c.loop-tuple-test.true c.tuple-item.is (c.loop-tuple.invariant k h f a) c.in_ok-push.ensures.items (c.chosen.ensures k h f a)

pub returns : goal.returns
returns c = λ k h f a. all_of (λ l. c.loop-tuple.list.items ≡ map (chosen_tuple k h f c.args.is_root c.args.next) l) c.args.tuples.now
    c.loop-tuple.tuple-index c.loop-tuple-test.false c.loop-tuple.auto.tuple-index-end (c.loop-tuple.invariant k h f a)
