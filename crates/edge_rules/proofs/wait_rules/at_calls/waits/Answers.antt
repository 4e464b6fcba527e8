use Rattle.std.proofs.Common.{sym, subst, refl}
use Rattle.function_tables.specs.EngineTables.Known.{AreKnown, checker_in, texts_in, graphs_in, objects_in}
use Rattle.function_tables.proofs.EngineTables.Places.{if-some, apart-in}
use Rattle.least_set.specs.Logs.{IsExactly}
use Rattle.path_edges.specs.Relations.{WaitsAt}
use Rattle.block_flows.proofs.TupleFlows.Lists.{if-ok}
use Rattle.edge_rules.specs.WaitRules.FoundCalls.{IsFound}
use Rattle.edge_rules.proofs.WaitRules.WhoWaits.{exactly-waits, nobody-waits}
use Rattle.edge_rules.proofs.wait_rules.at_calls.waits.Goals as goal

pub returns-in-Some : goal.returns-in-Some
returns-in-Some c =
    let t = c.args.tables.now in
    let e = c.args.edge.now in
    let call = c.in-Some.call in
    if-ok _ _ c.waits_of_all.result
    (λ list x k all.
    let f = if-some (λ z. AreKnown t → IsFound t e.context.function e.block z) c.followed_call.result _ c.in-Some.is c.followed_call.ensures.there k in
    exactly-waits (checker_in t) (texts_in t) (graphs_in t) (objects_in t) (apart-in t) e call.callee call.behind f.site f.call call.caller_objects.now.keys call.callee_objects.now.keys f.here f.there c.args.tuples.now all list.items
    (x (checker_in t) f.site f.call.called refl f.passes))
    c.waits_of_all.ensures

pub returns-in-None : goal.returns-in-None
returns-in-None c =
    let t = c.args.tables.now in
    let e = c.args.edge.now in
    λ k all. subst (λ l. IsExactly l (λ w. WaitsAt (checker_in t) (texts_in t) (graphs_in t) (objects_in t) e w.on w.waiter)) (sym c.new.ensures.items)
    (nobody-waits (checker_in t) (texts_in t) (graphs_in t) (objects_in t) e (c.followed_call.ensures.missing c.in-None.is k))
