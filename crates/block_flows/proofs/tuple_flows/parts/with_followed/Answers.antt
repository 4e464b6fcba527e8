use Rattle.std.proofs.Common.{◌≡◌, ◌∙◌, sym, ap, true}
use Rattle.c_objects.specs.Objects.{Object}
use Rattle.least_set.specs.Logs.{IsExactly, SomeGives}
use Rattle.least_set.proofs.Growing.{all_of}
use Rattle.block_flows.specs.TupleFlows.Facts.{is_in, with_object}
use Rattle.block_flows.proofs.TupleFlows.Followed.{missing-in}
use Rattle.block_flows.proofs.TupleFlows.Lists.{given-next, given-past}
use Rattle.block_flows.proofs.tuple_flows.parts.with_followed.Goals.{then-is_followed+in_ok-push, else-is_followed}
use Rattle.block_flows.proofs.tuple_flows.parts.with_followed.Goals as goal

pub loop-object-preserved : goal.loop-object-preserved
loop-object-preserved c =
    let followed = c.args.followed.now.keys in
    let P = λ (o : Object). is_in followed o ≡ true in
    let F = with_object c.args.tuple.now in
    let xs = c.args.objects.now in
    let at = c.loop-object in
    let x = c.object-item.result in
    elim c.if-is_followed.branch [
      | then-is_followed+in_ok-push w ↦ rw w.list-is (rw w.in_ok-push.ensures.items
          (given-next P F xs at.object-index x at.list.items c.loop-object-test.true c.object-item.is at.invariant w.with_object.result (sym c.is_followed.ensures ∙ w.if-is_followed.true)
          (w.with_object.ensures ∙ ap F w.copy.ensures)))
      | else-is_followed w ↦ rw w.list-is (given-past P F xs at.object-index x at.list.items c.loop-object-test.true c.object-item.is at.invariant (missing-in followed x c.is_followed.result c.is_followed.ensures w.if-is_followed.false))
    ]

pub returns : goal.returns
returns c = all_of (λ l. IsExactly c.loop-object.list.items (SomeGives (λ o u. (is_in c.args.followed.now.keys o ≡ true) × (with_object c.args.tuple.now o ≡ u)) l)) c.args.objects.now
    c.loop-object.object-index c.loop-object-test.false c.loop-object.auto.object-index-end c.loop-object.invariant
