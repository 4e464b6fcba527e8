use Rattle.std.proofs.Common.{◌≡◌, ◌∙◌, sym, ap, subst, List, None, Contains}
use Rattle.c_objects.specs.Objects.{Object}
use Rattle.path_model.specs.CheckerModel.Moves.{move_of}
use Rattle.flow_graph.specs.Values.{event_of}
use Rattle.objects.specs.Units.{facts_in}
use Rattle.least_set.specs.Logs.{IsExactly, SomeGives}
use Rattle.least_set.proofs.Growing.{all_of}
use Rattle.block_flows.specs.TupleFlows.Facts.{is_in, with_object}
use Rattle.block_flows.specs.TupleFlows.Moved.{source_in}
use Rattle.block_flows.proofs.TupleFlows.Followed.{contains-in}
use Rattle.block_flows.proofs.TupleFlows.Lists.{given-next, given-past, none-found, some-found}
use Rattle.block_flows.proofs.tuple_flows.moves.unknown.Goals.{then-is_unknown+in_ok-push, else-is_unknown}
use Rattle.block_flows.proofs.tuple_flows.moves.unknown.Goals as goal

pub loop-object-preserved : goal.loop-object-preserved
loop-object-preserved c =
    let followed = c.args.followed.now.keys in
    let S = source_in c.args.depth (move_of (facts_in c.args.unit.now) c.args.depth (event_of c.args.event.now)) followed in
    let P = λ (o : Object). S o ≡ None in
    let F = with_object c.args.tuple.now in
    let xs = c.as_slice-objects.result.now in
    let at = c.loop-object in
    let x = c.object-item.result in
    let own = contains-in followed x (subst (λ l. Contains l x) c.as_slice-objects.ensures.keys (at.object-index, c.loop-object-test.true, sym c.object-item.is)) in
    elim c.if-is_unknown.branch [
      | then-is_unknown+in_ok-push w ↦ rw w.list-is (rw w.in_ok-push.ensures.items
          (given-next P F xs at.object-index x at.list.items c.loop-object-test.true c.object-item.is at.invariant w.with_object.result (none-found (S x) c.is_unknown.result (c.is_unknown.ensures own) w.if-is_unknown.true)
          (w.with_object.ensures ∙ ap F w.copy.ensures)))
      | else-is_unknown w ↦ rw w.list-is (given-past P F xs at.object-index x at.list.items c.loop-object-test.true c.object-item.is at.invariant (some-found (S x) c.is_unknown.result (c.is_unknown.ensures own) w.if-is_unknown.false))
    ]

pub returns : goal.returns
returns c =
    let followed = c.args.followed.now.keys in
    let S = source_in c.args.depth (move_of (facts_in c.args.unit.now) c.args.depth (event_of c.args.event.now)) followed in
    let G = λ (l : List Object). IsExactly c.loop-object.list.items (SomeGives (λ o u. (S o ≡ None) × (with_object c.args.tuple.now o ≡ u)) l) in
    subst G c.as_slice-objects.ensures.keys
    (all_of G c.as_slice-objects.result.now c.loop-object.object-index c.loop-object-test.false c.loop-object.auto.object-index-end c.loop-object.invariant)
