use Rattle.std.proofs.Common.{subst}
use Rattle.known_objects.proofs.SetSteps.{HasExactly, sets_begun, sets_more, sets_whole}
use Rattle.known_objects.proofs.relevant_sets.sets_of.Goals as goal

pub loop-list-init : goal.loop-list-init
loop-list-init c = sets_begun (λ s. s.keys) (λ os. os.items) c.args.lists.now c.new-sets.result.items c.new-sets.ensures.items

pub loop-list-preserved : goal.loop-list-preserved
loop-list-preserved c =
    let at = c.loop-list in
    let set = c.in_ok-set_of.field-0 in
    sets_more (λ s. s.keys) (λ os. os.items) c.args.lists.now at.list-index c.list-item.result set at.sets.items c.push.new.self.items c.loop-list-test.true c.list-item.is
    c.in_ok-push.ensures.items (subst (HasExactly set.keys) c.as_slice.ensures.value c.in_ok-set_of.ensures) at.invariant

pub returns : goal.returns
returns c = sets_whole (λ s. s.keys) (λ os. os.items) c.args.lists.now c.loop-list.list-index c.loop-list.sets.items c.loop-list-test.false c.loop-list.invariant
