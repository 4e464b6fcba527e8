use Rattle.std.proofs.Common.{◌∙◌, ap}
use Rattle.indexmap.specs.IndexSet.{insert_key}
use Rattle.known_objects.proofs.FunctionSets.{written-over, past-all}
use Rattle.known_objects.proofs.sets.add_known.Goals as goal
use Rattle.objects.specs.Equality.{same_object}

pub returns-in_ok-insert : goal.returns-in_ok-insert
returns-in_ok-insert c =
    written-over (λ s. s.keys) c.args.sets.now.items c.args.member.now.function c.args.member.now.object c.in-Some.set.now c.tighten.new.set c.in-Some.ensures.item.3.0 c.in-Some.ensures.value
    (c.tighten.ensures ∙ c.in_ok-insert.ensures.keys ∙ ap (λ o. insert_key same_object c.in-Some.set.now.keys o) c.copy.ensures)

pub returns-in_default : goal.returns-in_default
returns-in_default c = past-all (λ s. s.keys) c.args.sets.now.items c.args.member.now.function c.args.member.now.object c.in_default.ensures.item.3
