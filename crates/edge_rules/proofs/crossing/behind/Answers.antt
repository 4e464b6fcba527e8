use Rattle.std.proofs.Common.{sym, subst}
use Rattle.path_edges.specs.EdgeSteps.Steps.{StandsBehind}
use Rattle.least_set.specs.Logs.{IsExactly}
use Rattle.function_tables.specs.EngineTables.Known.{IsFrame, checker_in, texts_in, graphs_in, objects_in}
use Rattle.edge_rules.proofs.CrossedBlocks.{nothing-behind}
use Rattle.function_tables.proofs.EngineTables.Places.{if-ok, if-some}
use Rattle.edge_rules.proofs.crossing.behind.Goals as goal

pub returns-in-Some : goal.returns-in-Some
returns-in-Some c =
    if-ok _ _ c.crossed.result (λ list x k. x k (if-some (IsFrame c.args.tables.now c.args.edge.now.context.function) c.frame.result _ c.in-Some.is c.frame.ensures.there)) c.crossed.ensures

pub returns-in-None : goal.returns-in-None
returns-in-None c =
    let t = c.args.tables.now in
    let e = c.args.edge.now in
    λ k. subst (λ l. IsExactly l (StandsBehind (checker_in t) (texts_in t) (graphs_in t) (objects_in t) e)) (sym c.new.ensures.items)
    (nothing-behind (checker_in t) (texts_in t) (graphs_in t) (objects_in t) e (c.frame.ensures.missing c.in-None.is k))
