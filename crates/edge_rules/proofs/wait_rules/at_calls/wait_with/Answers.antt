use Rattle.std.proofs.Common.{Some}
use Rattle.edge_rules.proofs.wait_rules.at_calls.wait_with.Goals as goal

pub returns : goal.returns
returns c = λ i. record {
  on = record { function = c.args.call.now.callee; entry = c.without_object.ensures i };
  waiter = record {
    context = c.copy_context.ensures i;
    is_root = c.args.edge.now.is_root;
    block = c.args.edge.now.block;
    behind = c.args.call.now.behind;
    saved = Some (c.copy.ensures i, c.args.tuple.now.state);
  };
}
