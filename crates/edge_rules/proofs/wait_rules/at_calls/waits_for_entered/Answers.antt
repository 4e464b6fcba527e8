use Rattle.std.proofs.Common.{◌≡◌, ◌∙◌, sym, ap, subst, map}
use Rattle.path_edges.specs.EdgeSteps.Steps.{wait_for}
use Rattle.least_set.specs.Logs.{IsExactly}
use Rattle.state_tuples.specs.declared.tuple.Tuple.{Tuple}
use Rattle.block_flows.specs.TupleFlows.Passed.{IsEntered}
use Rattle.block_flows.proofs.TupleFlows.Lists.{if-ok}
use Rattle.edge_rules.proofs.WaitRules.OneTuple.{exactly-mapped}
use Rattle.edge_rules.proofs.wait_rules.at_calls.waits_for_entered.Goals as goal

pub returns : goal.returns
returns c =
    let call = c.args.call.now in
    let t = c.args.tuple.now in
    let here = call.caller_objects.now.keys in
    let there = call.callee_objects.now.keys in
    let entries = c.in_ok-entries.entries.items in
    let F = wait_for c.args.edge.now call.callee call.behind in
    if-ok _ _ c.waits_for.result
    (λ list x k s h d is. subst (λ l. IsExactly l (λ w. (u : Tuple) × IsEntered k s h here there t u × (F u ≡ w))) (sym (x ∙ ap (map F) c.as_slice.ensures.value))
    (exactly-mapped F (IsEntered k s h here there t) entries (c.in_ok-entries.ensures k s h d is)))
    c.waits_for.ensures
