use Rattle.std.proofs.Common.{[], map, length, ◌∙◌, sym, ap, subst}
use Rattle.std.proofs.lemmas.List.{length-map, length-replicate}
use Rattle.known_objects.proofs.FunctionSets.{AreEachDistinct, no-sets, none-distinct, sets-next, distinct-next, sets-all, each-once, same-count}
use Rattle.known_objects.proofs.sets.sets_of.Goals as goal
use Rattle.known_objects.specs.ByFunction.{AreSets}

pub loop-member-init : goal.loop-member-init
loop-member-init c =
    let sets = c.in_ok-sets.sets.items in
    let empty = c.in_ok-sets.ensures in record {
      count = sym (length-map sets (λ s. s.keys)) ∙ ap length empty ∙ length-replicate c.args.count [];
      sets = subst (AreSets []) (sym empty) (no-sets c.args.count);
      distinct = subst AreEachDistinct (sym empty) (none-distinct c.args.count);
    }

pub loop-member-preserved : goal.loop-member-preserved
loop-member-preserved c =
    let at = c.loop-member in
    let x = c.member-item.result in
    let old = map (λ s. s.keys) at.sets.items in
    let new = map (λ s. s.keys) c.add_known.new.sets.items in record {
      count = same-count (λ s. s.keys) at.sets.items c.add_known.new.sets.items x.function x.object c.in_ok-add_known.ensures ∙ at.invariant.count;
      sets = sets-next c.args.found.now at.member-index x old new c.loop-member-test.true c.member-item.is c.in_ok-add_known.ensures at.invariant.sets;
      distinct = distinct-next x.function x.object old new c.in_ok-add_known.ensures at.invariant.distinct;
    }

pub returns-clause-sets : goal.returns-clause-sets
returns-clause-sets c = sets-all c.args.found.now c.loop-member.member-index (map (λ s. s.keys) c.loop-member.sets.items) c.loop-member-test.false c.loop-member.invariant.sets

pub returns-clause-once : goal.returns-clause-once
returns-clause-once c = each-once (map (λ s. s.keys) c.loop-member.sets.items) c.loop-member.invariant.distinct
