use Rattle.std.proofs.Common.{◌∙◌, ap}
use Rattle.c_tree.specs.Node.{node, Operation}
use Rattle.c_tree.specs.Views.{node_of, nodes_of, shape_of, operation_shape}
use Rattle.call_graph.proofs.OfPrograms.Placed.{call-placed}
use Rattle.call_graph.proofs.programs.callees.called_name.Goals as goal

pub returns-in-Call-clause-placed : goal.returns-in-Call-clause-placed
returns-in-Call-clause-placed c v r h =
    let e = node_of c.args.call.now in
    let i = c.args.call.now.id in
    let p = c.args.call.now.first in
    let k = ap (λ k. node i p (shape_of k)) c.in-Operation.is ∙ ap (λ k. node i p (Operation (operation_shape k))) c.in-Call.is in
    call-placed (nodes_of c.args.unit.now.unit.chunks) v r e i p (node_of c.in-Call.callee.now) _ _ c.function_named.result c.parts_stand_by_case.ensures k c.function_named.ensures.placed h
