use Rattle.std.proofs.Common.{sym, subst}
use Rattle.function_tables.specs.EngineTables.Known.{IsFrame, checker_in, texts_in, graphs_in, objects_in}
use Rattle.function_tables.proofs.EngineTables.Places.{if-some}
use Rattle.least_set.specs.Logs.{IsExactly}
use Rattle.path_edges.specs.Relations.{IsWoken}
use Rattle.block_flows.proofs.TupleFlows.Lists.{if-ok}
use Rattle.edge_rules.proofs.WaitRules.WhoIsWoken.{nobody-goes-on}
use Rattle.edge_rules.proofs.wait_rules.at_ends.wake.Goals as goal

pub returns-in-Some : goal.returns-in-Some
returns-in-Some c =
    let t = c.args.tables.now in
    if-ok _ _ c.goes_on.result
    (λ list x k all. x k (if-some (IsFrame t c.args.waiter.now.context.function) c.frame.result _ c.in-Some.is c.frame.ensures.there) c.args.end.now all) c.goes_on.ensures

pub returns-in-None : goal.returns-in-None
returns-in-None c =
    let t = c.args.tables.now in
    let w = c.args.waiter.now in
    λ k all. subst (λ l. IsExactly l (IsWoken (checker_in t) (texts_in t) (graphs_in t) (objects_in t) w c.args.end.now)) (sym c.new.ensures.items)
    (nobody-goes-on (checker_in t) (texts_in t) (graphs_in t) (objects_in t) w c.args.end.now (c.frame.ensures.missing c.in-None.is k))
