use Rattle.std.proofs.Common.{◌≡◌, ◌∙◌, sym, ap, subst, map}
use Rattle.path_edges.specs.EdgeSteps.Steps.{woken_edge}
use Rattle.least_set.specs.Logs.{IsExactly}
use Rattle.state_tuples.specs.declared.tuple.Tuple.{Tuple}
use Rattle.block_flows.specs.TupleFlows.Passed.{IsReturned}
use Rattle.block_flows.proofs.TupleFlows.Lists.{if-ok}
use Rattle.edge_rules.proofs.WaitRules.OneTuple.{exactly-mapped}
use Rattle.edge_rules.proofs.wait_rules.at_ends.with_handed.Goals as goal

pub returns : goal.returns
returns c =
    let here = c.args.caller_objects.now.keys in
    let there = c.args.callee_objects.now.keys in
    let t = c.args.tuple.now in
    let handed = c.in_ok-handed.handed.items in
    let F = woken_edge c.args.waiter.now in
    if-ok _ _ c.woken.result
    (λ list x k s f d is. subst (λ l. IsExactly l (λ e. (u : Tuple) × IsReturned k s f here there t u × (F u ≡ e))) (sym (x ∙ ap (map F) c.as_slice.ensures.value))
    (exactly-mapped F (IsReturned k s f here there t) handed (c.in_ok-handed.ensures k s f d is)))
    c.woken.ensures
