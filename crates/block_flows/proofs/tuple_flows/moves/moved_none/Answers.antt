use Rattle.std.proofs.Common.{◌∙◌, sym, subst, ap, [], ◌∷◌, ◌++◌}
use Rattle.path_model.specs.CheckerModel.Moves.{move_of}
use Rattle.flow_graph.specs.Values.{event_of}
use Rattle.objects.specs.Units.{facts_in}
use Rattle.least_set.specs.Logs.{IsExactly}
use Rattle.block_flows.specs.TupleFlows.Facts.{without_object}
use Rattle.block_flows.specs.TupleFlows.Moved.{IsMoved}
use Rattle.block_flows.proofs.TupleFlows.MovedTuples.{of-none}
use Rattle.block_flows.proofs.tuple_flows.moves.moved_none.Goals as goal

pub returns : goal.returns
returns c =
    let m = move_of (facts_in c.args.unit.now) c.args.depth (event_of c.args.event.now) in
    let out = c.in_ok-list.list.items in
    λ none are. subst (λ l. IsExactly l (IsMoved c.args.depth m c.args.followed.now.keys c.args.tuple.now)) (sym (c.in_ok-push.ensures.items ∙ ap (λ z. out ++ z ∷ []) c.without_object.ensures))
    (of-none c.args.depth m c.args.followed.now.keys c.args.tuple.now out none (c.in_ok-list.ensures are))
