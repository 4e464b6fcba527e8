use Rattle.std.proofs.Common.{sym, subst, refl}
use Rattle.path_model.specs.CheckerPrograms.Texts.{function_of}
use Rattle.function_tables.specs.EngineTables.Known.{AreKnown, IsFrame, checker_in, texts_in, graphs_in, objects_in}
use Rattle.function_tables.proofs.EngineTables.Places.{if-some, named, place}
use Rattle.least_set.specs.Logs.{IsExactly}
use Rattle.path_edges.specs.Edges.{site_at}
use Rattle.path_edges.specs.Relations.{IsWoken}
use Rattle.refine_restore.specs.Sites.{site_of}
use Rattle.block_flows.proofs.TupleFlows.Lists.{if-ok}
use Rattle.edge_rules.specs.WaitRules.Handing.{HandBackAlike}
use Rattle.edge_rules.proofs.WaitRules.OneTuple.{only-handed}
use Rattle.edge_rules.proofs.WaitRules.WhoIsWoken.{exactly-woken, nobody-goes-on}
use Rattle.edge_rules.proofs.wait_rules.at_ends.goes_on_handed.Goals as goal

pub returns-in-Some : goal.returns-in-Some
returns-in-Some c =
    let t = c.args.tables.now in
    let f = c.args.frame.now in
    let w = c.args.waiter.now in
    let n = w.context.function in
    let s = site_of t.depth c.in-Some.site in
    let here = f.objects.now.keys in
    let there = c.called_objects-called.result.now.keys in
    if-ok _ _ c.with_all_handed.result
    (λ list x k h none e all.
    let p = place t n f k h in
    let same = if-some (λ z. AreKnown t → IsFrame t n f → HandBackAlike t.depth (site_of t.depth z) (site_at t.depth (texts_in t) (graphs_in t) n w.block)) c.waiting_site.result _ c.in-Some.is c.waiting_site.ensures.there k h in
    exactly-woken (checker_in t) (texts_in t) (graphs_in t) (objects_in t) w e (function_of p.defined) (named t n p.defined p.is) here there p.follows (c.called_objects-called.ensures k n h) s same c.args.tuples.now all list.items
    (only-handed (checker_in t) s (function_of p.defined) here there w c.args.tuples.now list.items none (x (checker_in t) s (function_of p.defined) refl (record { formals = refl; actuals = refl }))))
    c.with_all_handed.ensures

pub returns-in-None : goal.returns-in-None
returns-in-None c =
    let t = c.args.tables.now in
    let w = c.args.waiter.now in
    λ k h none e all. subst (λ l. IsExactly l (IsWoken (checker_in t) (texts_in t) (graphs_in t) (objects_in t) w e)) (sym c.new.ensures.items)
    (nobody-goes-on (checker_in t) (texts_in t) (graphs_in t) (objects_in t) w e (c.waiting_site.ensures.missing c.in-None.is))
