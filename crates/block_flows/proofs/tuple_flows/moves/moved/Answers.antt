use Rattle.path_model.specs.CheckerModel.Moves.{move_of}
use Rattle.flow_graph.specs.Values.{event_of}
use Rattle.objects.specs.Units.{facts_in}
use Rattle.block_flows.proofs.TupleFlows.Lists.{if-ok}
use Rattle.block_flows.proofs.TupleFlows.MovedTuples.{of-object}
use Rattle.block_flows.proofs.tuple_flows.moves.moved.Goals as goal

pub returns-in-Some : goal.returns-in-Some
returns-in-Some c =
    let m = move_of (facts_in c.args.unit.now) c.args.depth (event_of c.args.event.now) in
    if-ok _ _ c.taking.result (λ list x are. of-object c.args.depth m c.args.followed.now.keys c.args.tuple.now _ list.items c.in-Some.is x) c.taking.ensures

pub returns-in-None : goal.returns-in-None
returns-in-None c = if-ok _ _ c.moved_none.result (λ list x are. x c.in-None.is are) c.moved_none.ensures
