use Rattle.std.proofs.Common.{◌∙◌, sym, ap, refl}
use Rattle.flow_graph.specs.Values.{event_of}
use Rattle.objects.specs.Origins.{origin_of}
use Rattle.objects.specs.Units.{facts_in}
use Rattle.path_model.specs.CheckerModel.Moves.{move_of, source}
use Rattle.block_flows.proofs.TupleFlows.Followed.{itself-test, none-test, some-test}
use Rattle.block_flows.proofs.tuple_flows.moves.is_unknown.Goals as goal

pub returns-in-Same : goal.returns-in-Same
returns-in-Same c = λ i.
    let o = c.args.object.now in
    let followed = c.args.followed.now.keys in
    itself-test followed followed o (source c.args.depth (move_of (facts_in c.args.unit.now) c.args.depth (event_of c.args.event.now)) o) o _ i i
    (sym c.source_before.ensures ∙ ap (origin_of o) c.in-Same.is) refl

pub returns-in-From : goal.returns-in-From
returns-in-From c = λ i.
    let o = c.args.object.now in
    let followed = c.args.followed.now.keys in
    some-test followed followed o (source c.args.depth (move_of (facts_in c.args.unit.now) c.args.depth (event_of c.args.event.now)) o) c.in-From.source _ c.is_followed.result i
    (sym c.source_before.ensures ∙ ap (origin_of o) c.in-From.is) c.is_followed.ensures refl

pub returns-in-Nothing : goal.returns-in-Nothing
returns-in-Nothing c = λ i.
    let o = c.args.object.now in
    let followed = c.args.followed.now.keys in
    none-test followed followed o (source c.args.depth (move_of (facts_in c.args.unit.now) c.args.depth (event_of c.args.event.now)) o) _ refl
    (sym c.source_before.ensures ∙ ap (origin_of o) c.in-Nothing.is)
