use Rattle.std.proofs.Common.{◌≡◌, ◌∙◌, sym, subst, None}
use Rattle.c_objects.specs.Objects.{Object}
use Rattle.path_model.specs.CheckerModel.Moves.{move_of}
use Rattle.flow_graph.specs.Values.{event_of}
use Rattle.least_set.specs.Logs.{IsExactly, SomeGives}
use Rattle.objects.specs.Units.{facts_in}
use Rattle.state_tuples.specs.declared.tuple.Tuple.{Tuple}
use Rattle.block_flows.specs.TupleFlows.Facts.{with_object}
use Rattle.block_flows.specs.TupleFlows.Moved.{source_in}
use Rattle.block_flows.proofs.TupleFlows.Lists.{if-ok}
use Rattle.block_flows.proofs.TupleFlows.MovedTuples.{none-unknown}
use Rattle.block_flows.proofs.tuple_flows.moves.made_unknown.Goals as goal

pub returns-then-is_move : goal.returns-then-is_move
returns-then-is_move c = if-ok _ _ c.unknown.result (λ list x are. x) c.unknown.ensures

pub returns : goal.returns
returns c =
    let m = move_of (facts_in c.args.unit.now) c.args.depth (event_of c.args.event.now) in
    let followed = c.args.followed.now.keys in
    λ are. subst (λ l. IsExactly l (SomeGives (λ o u. (source_in c.args.depth m followed o ≡ None) × (with_object c.args.tuple.now o ≡ u)) followed)) (sym c.new.ensures.items)
    (none-unknown c.args.depth m followed (λ (o : Object) (u : Tuple). with_object c.args.tuple.now o ≡ u) (sym c.is_move.ensures ∙ c.if-is_move.false) are)
