use Rattle.std.proofs.Common.{◌≡◌, ◌∙◌, sym, ap, subst, List, None, Contains}
use Rattle.c_objects.specs.Objects.{Object}
use Rattle.refine_restore.specs.Sites.{site_of}
use Rattle.least_set.specs.Logs.{IsExactly, SomeGives}
use Rattle.least_set.proofs.Growing.{all_of}
use Rattle.block_flows.specs.TupleFlows.Facts.{is_in, with_object}
use Rattle.block_flows.specs.TupleFlows.Passed.{into_in}
use Rattle.block_flows.proofs.TupleFlows.Followed.{contains-in}
use Rattle.block_flows.proofs.TupleFlows.Lists.{given-next, given-past, none-found, some-found}
use Rattle.block_flows.proofs.tuple_flows.passed.entered_unknown.Goals.{then-begins_unknown+in_ok-push, else-begins_unknown}
use Rattle.block_flows.proofs.tuple_flows.passed.entered_unknown.Goals as goal

pub loop-object-preserved : goal.loop-object-preserved
loop-object-preserved c =
    let there = c.args.callee_objects.now.keys in
    let S = into_in c.args.depth (site_of c.args.depth c.args.site.now) c.args.caller_objects.now.keys there in
    let P = λ (o : Object). S o ≡ None in
    let F = with_object c.args.tuple.now in
    let xs = c.as_slice-objects.result.now in
    let at = c.loop-object in
    let x = c.object-item.result in
    let own = contains-in there x (subst (λ l. Contains l x) c.as_slice-objects.ensures.keys (at.object-index, c.loop-object-test.true, sym c.object-item.is)) in
    elim c.if-begins_unknown.branch [
      | then-begins_unknown+in_ok-push w ↦ rw w.list-is (rw w.in_ok-push.ensures.items
          (given-next P F xs at.object-index x at.list.items c.loop-object-test.true c.object-item.is at.invariant w.with_object.result (none-found (S x) c.begins_unknown.result (c.begins_unknown.ensures own) w.if-begins_unknown.true)
          (w.with_object.ensures ∙ ap F w.copy.ensures)))
      | else-begins_unknown w ↦ rw w.list-is (given-past P F xs at.object-index x at.list.items c.loop-object-test.true c.object-item.is at.invariant (some-found (S x) c.begins_unknown.result (c.begins_unknown.ensures own) w.if-begins_unknown.false))
    ]

pub returns : goal.returns
returns c =
    let there = c.args.callee_objects.now.keys in
    let S = into_in c.args.depth (site_of c.args.depth c.args.site.now) c.args.caller_objects.now.keys there in
    let G = λ (l : List Object). IsExactly c.loop-object.list.items (SomeGives (λ o u. (S o ≡ None) × (with_object c.args.tuple.now o ≡ u)) l) in
    subst G c.as_slice-objects.ensures.keys
    (all_of G c.as_slice-objects.result.now c.loop-object.object-index c.loop-object-test.false c.loop-object.auto.object-index-end c.loop-object.invariant)
