use Rattle.std.proofs.Common.{◌≡◌}
use Rattle.block_flows.proofs.TupleFlows.Lists.{mapped-next}
use Rattle.c_objects.specs.Objects.{Object}
use Rattle.hole_matching.specs.Callouts.{is_local}
use Rattle.least_set.proofs.Growing.{all_of}
use Rattle.numbered_program.specs.NumberedEvents.Listed.{own_of}
use Rattle.numbered_program.proofs.functions.own_flags.Goals as goal

pub loop-object-preserved : goal.loop-object-preserved
loop-object-preserved c =
    let at = c.loop-object in
    mapped-next (λ (o : Object). is_local o.base) c.args.objects.now at.object-index c.object-item.result at.flags.items c.push.new.self.items c.is_own.result c.loop-object-test.true c.object-item.is at.invariant
    c.in_ok-push.ensures.items c.is_own.ensures

pub returns : goal.returns
returns c = all_of (λ xs. c.loop-object.flags.items ≡ own_of xs) c.args.objects.now c.loop-object.object-index c.loop-object-test.false c.loop-object.auto.object-index-end c.loop-object.invariant
