use Rattle.refine_restore.specs.Sites.{site_of}
use Rattle.block_flows.proofs.TupleFlows.Calls.{entered-object-alone, into-there}
use Rattle.block_flows.proofs.TupleFlows.Lists.{if-ok}
use Rattle.block_flows.proofs.tuple_flows.passed.into_call.Goals as goal

pub returns-in-Some : goal.returns-in-Some
returns-in-Some c =
    let t = c.args.tuple.now in
    let here = c.args.caller_objects.now.keys in
    let there = c.args.callee_objects.now.keys in
    if-ok _ _ c.entered.result
    (λ list x k s f e is. entered-object-alone k s f here there t list.items _ c.in-Some.is
    (into-there c.args.depth k.depth (site_of c.args.depth c.args.site.now) s here there t _ list.items e is.formals is.actuals c.in-Some.is x))
    c.entered.ensures

pub returns-in-None : goal.returns-in-None
returns-in-None c = if-ok _ _ c.entered_none.result (λ list x. x c.in-None.is) c.entered_none.ensures
