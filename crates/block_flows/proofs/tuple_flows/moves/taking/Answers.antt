use Rattle.std.proofs.Common.{◌≡◌, ◌∙◌, sym, subst, ap, not, true, false, Some}
use Rattle.path_model.specs.CheckerModel.Moves.{move_of, source}
use Rattle.flow_graph.specs.Values.{event_of}
use Rattle.objects.specs.Units.{facts_in}
use Rattle.least_set.specs.Logs.{IsExactly, SomeGives}
use Rattle.block_flows.specs.TupleFlows.Facts.{is_in, with_object}
use Rattle.block_flows.specs.TupleFlows.Moved.{source_in}
use Rattle.block_flows.proofs.TupleFlows.Followed.{exactly-taken, none-taken}
use Rattle.block_flows.proofs.TupleFlows.Lists.{if-ok}
use Rattle.block_flows.proofs.tuple_flows.moves.taking.Goals as goal

pub returns-then-not-is_followed : goal.returns-then-not-is_followed
returns-then-not-is_followed c =
    let m = move_of (facts_in c.args.unit.now) c.args.depth (event_of c.args.event.now) in
    let t = c.args.tuple.now in
    let b = c.args.object.now in
    let followed = c.args.followed.now.keys in
    subst (λ l. IsExactly l (SomeGives (λ o u. (source_in c.args.depth m followed o ≡ Some b) × (with_object t o ≡ u)) followed)) (sym c.new.ensures.items)
    (none-taken (with_object t) (source c.args.depth m) b followed followed (sym c.is_followed.ensures ∙ c.if-not-is_followed.true))

pub returns : goal.returns
returns c =
    let m = move_of (facts_in c.args.unit.now) c.args.depth (event_of c.args.event.now) in
    let t = c.args.tuple.now in
    let b = c.args.object.now in
    let followed = c.args.followed.now.keys in
    let targets = c.in_ok-targets.targets.items in
    let are = c.in_ok-targets.ensures in
    if-ok _ _ c.with_followed.result
    (λ list x. exactly-taken (with_object t) (source c.args.depth m) b followed followed targets list.items (sym c.is_followed.ensures ∙ c.if-not-is_followed.false) are.real are.whole
    (subst (λ l. IsExactly list.items (SomeGives (λ o u. (is_in followed o ≡ true) × (with_object t o ≡ u)) l)) c.as_slice.ensures.value x))
    c.with_followed.ensures
