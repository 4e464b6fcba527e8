use Rattle.call_graph.proofs.Linked.{room-for-one}
use Rattle.call_graph.proofs.linking.add_unit.Goals as goal

pub add-requires : goal.add-requires
add-requires c =
    room-for-one c.args.functions.now.all.items c.loop-function.functions.all.items c.as_slice-function-items.result.now c.args.unit.now.functions.items c.loop-function.function-index _
    c.loop-function-test.true c.loop-function.invariant.kept c.requires
