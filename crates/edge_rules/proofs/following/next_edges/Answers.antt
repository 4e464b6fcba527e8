use Rattle.std.proofs.Common.{sym, subst}
use Rattle.edge_rules.proofs.Followed.{no-function-leads}
use Rattle.edge_rules.proofs.following.next_edges.Goals as goal
use Rattle.function_tables.proofs.EngineTables.Places.{if-ok, if-some}
use Rattle.function_tables.specs.EngineTables.Known.{IsFrame, checker_in, texts_in, graphs_in, objects_in}
use Rattle.least_set.specs.Logs.{IsExactly}
use Rattle.path_edges.specs.Relations.{LeadsTo}

pub returns-in-Some : goal.returns-in-Some
returns-in-Some c =
    if-ok _ _ c.next_in.result (λ list x k b. x k (if-some (IsFrame c.args.tables.now c.args.edge.now.context.function) c.frame.result _ c.in-Some.is c.frame.ensures.there) b) c.next_in.ensures

pub returns-in-None : goal.returns-in-None
returns-in-None c =
    let t = c.args.tables.now in
    let e = c.args.edge.now in
    λ k b. subst (λ l. IsExactly l (LeadsTo (checker_in t) (texts_in t) (graphs_in t) (objects_in t) e)) (sym c.new.ensures.items)
    (no-function-leads (checker_in t) (texts_in t) (graphs_in t) (objects_in t) e (c.frame.ensures.missing c.in-None.is k))
