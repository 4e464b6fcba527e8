use Rattle.relevant.specs.BoundMembers.Bound.{BoundAt}
use Rattle.relevant.proofs.BoundMembers.Binding.{events-next, events-all}
use Rattle.relevant.proofs.bound_members.events.add_at_events.Goals as goal
use Rattle.least_set.proofs.Growing.{adds_nothing}

pub loop-rules-init : goal.loop-rules-init
loop-rules-init c = λ m depth f hs are. adds_nothing (BoundAt c.args.sources m depth c.args.number f) c.args.found.now.items

pub loop-rules-preserved : goal.loop-rules-preserved
loop-rules-preserved c =
    let at = c.loop-rules in
    λ m depth f hs are. events-next c.args.sources m depth c.args.number f hs c.args.events.now are at.rules-index c.rules-item.result c.args.found.now.items at.found.items c.add_at.new.found.items
    c.loop-rules-test.true c.rules-item.is (at.invariant m depth f hs are) (λ h is. c.in_ok-add_at.ensures m depth f h is)

pub returns : goal.returns
returns c =
    let at = c.loop-rules in
    λ m depth f hs are. events-all c.args.sources m depth c.args.number f hs c.args.events.now are at.rules-index c.args.found.now.items at.found.items c.loop-rules-test.false (at.invariant m depth f hs are)
