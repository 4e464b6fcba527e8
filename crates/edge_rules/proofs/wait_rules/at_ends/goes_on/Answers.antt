use Rattle.std.proofs.Common.{refl}
use Rattle.path_model.specs.CheckerPrograms.Texts.{function_of}
use Rattle.function_tables.specs.EngineTables.Known.{checker_in, texts_in, graphs_in, objects_in}
use Rattle.function_tables.proofs.EngineTables.Places.{named, place}
use Rattle.path_edges.specs.Edges.{callee_at, site_at}
use Rattle.block_flows.proofs.TupleFlows.Lists.{if-ok}
use Rattle.edge_rules.proofs.WaitRules.OneTuple.{only-put-back}
use Rattle.edge_rules.proofs.WaitRules.WhoIsWoken.{exactly-woken, list_in, list-is}
use Rattle.edge_rules.proofs.wait_rules.at_ends.goes_on.Goals as goal

pub returns-in-Some : goal.returns-in-Some
returns-in-Some c =
    let t = c.args.tables.now in
    let f = c.args.frame.now in
    let w = c.args.waiter.now in
    let n = w.context.function in
    let s = site_at t.depth (texts_in t) (graphs_in t) n w.block in
    let callee = callee_at (checker_in t) (texts_in t) (graphs_in t) n w.block in
    let here = f.objects.now.keys in
    let there = list_in (texts_in t) (objects_in t) callee in
    if-ok _ _ c.with_put_back.result
    (λ list x k h e all.
    let p = place t n f k h in
    exactly-woken (checker_in t) (texts_in t) (graphs_in t) (objects_in t) w e (function_of p.defined) (named t n p.defined p.is) here there p.follows (list-is (texts_in t) (objects_in t) callee) s (λ o. refl)
    c.args.tuples.now all list.items
    (only-put-back (checker_in t) s (function_of p.defined) here there w c.args.tuples.now list.items c.in-Some.object c.in-Some.state c.in-Some.is x))
    c.with_put_back.ensures

pub returns-in-None : goal.returns-in-None
returns-in-None c = if-ok _ _ c.goes_on_handed.result (λ list x k h. x k h c.in-None.is) c.goes_on_handed.ensures
