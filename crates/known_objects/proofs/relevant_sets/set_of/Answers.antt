use Rattle.std.proofs.Common.{◌∙◌, ap}
use Rattle.indexmap.specs.IndexSet.{insert_key}
use Rattle.objects.specs.Equality.{same_object}
use Rattle.known_objects.proofs.SetSteps.{set_begun, set_more, set_whole}
use Rattle.known_objects.proofs.relevant_sets.set_of.Goals as goal

pub loop-object-init : goal.loop-object-init
loop-object-init c = set_begun c.args.objects.now c.new-set.result.keys c.new-set.ensures.empty

pub loop-object-preserved : goal.loop-object-preserved
loop-object-preserved c =
    let at = c.loop-object in
    set_more c.args.objects.now at.object-index c.object-item.result at.set.keys c.insert.new.self.keys c.loop-object-test.true c.object-item.is
    (c.in_ok-insert.ensures.keys ∙ ap (insert_key same_object at.set.keys) c.copy.ensures) at.invariant

pub returns : goal.returns
returns c = set_whole c.args.objects.now c.loop-object.object-index c.loop-object.set.keys c.loop-object-test.false c.loop-object.invariant
