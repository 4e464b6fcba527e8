use Rattle.std.proofs.Common.{◌≡◌, take, None}
use Rattle.path_model.specs.CheckerModel.Moves.{move_of}
use Rattle.flow_graph.specs.Values.{event_of}
use Rattle.objects.specs.Units.{facts_in}
use Rattle.least_set.specs.Logs.{IsExactly, SomeGives}
use Rattle.block_flows.specs.TupleFlows.Facts.{with_object}
use Rattle.block_flows.specs.TupleFlows.Moved.{source_in}
use Rattle.block_flows.proofs.tuple_flows.moves.unknown.Given as goal

-- the objects that were gone through have given theirs
abbrev pub invariant-loop-object : goal.invariant-loop-object
invariant-loop-object l =
    IsExactly l.list.items (SomeGives (λ o u. (source_in l.depth (move_of (facts_in l.unit) l.depth (event_of l.event)) l.followed.keys o ≡ None) × (with_object l.tuple o ≡ u)) (take l.object-index l.objects))
