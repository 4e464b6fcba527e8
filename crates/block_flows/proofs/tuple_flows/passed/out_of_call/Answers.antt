use Rattle.std.proofs.Common.{◌∙◌, sym, subst, ap, [], ◌∷◌}
use Rattle.least_set.specs.Logs.{IsExactly}
use Rattle.refine_restore.specs.Sites.{site_of}
use Rattle.block_flows.specs.TupleFlows.Passed.{IsReturned}
use Rattle.block_flows.proofs.TupleFlows.Calls.{returned-object-alone, returned-without, out-there}
use Rattle.block_flows.proofs.TupleFlows.Lists.{if-ok}
use Rattle.block_flows.proofs.tuple_flows.passed.out_of_call.Goals as goal

pub returns-in-Some : goal.returns-in-Some
returns-in-Some c =
    let t = c.args.tuple.now in
    let here = c.args.caller_objects.now.keys in
    let there = c.args.callee_objects.now.keys in
    if-ok _ _ c.returned.result
    (λ list x k s f e is. returned-object-alone k s f here there t list.items _ c.in-Some.is
    (out-there c.args.depth k.depth (site_of c.args.depth c.args.site.now) s here there t _ list.items e is.formals is.actuals c.in-Some.is x))
    c.returned.ensures

pub returns-in-None : goal.returns-in-None
returns-in-None c =
    let t = c.args.tuple.now in
    let here = c.args.caller_objects.now.keys in
    let there = c.args.callee_objects.now.keys in
    if-ok _ _ c.alone.result
    (λ list x k s f e is. subst (λ l. IsExactly l (IsReturned k s f here there t)) (sym (x ∙ ap (λ z. z ∷ []) c.without_object.ensures)) (returned-without k s f here there t c.in-None.is))
    c.alone.ensures
