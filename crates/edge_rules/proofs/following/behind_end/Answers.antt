use Rattle.std.proofs.Common.{◌∙◌, ap, sym, subst, map}
use Rattle.std.specs.Prelude.{flat_map}
use Rattle.path_edges.specs.EdgeSteps.Steps.{edge_at}
use Rattle.edge_rules.proofs.Followed.{exit-leads, jump-leads}
use Rattle.edge_rules.proofs.following.behind_end.Goals as goal
use Rattle.function_tables.proofs.EngineTables.Places.{if-ok, place}
use Rattle.function_tables.specs.EngineTables.Known.{checker_in, texts_in, graphs_in, objects_in}
use Rattle.flow_graph.specs.declared.graph.End.{End}
use Rattle.flow_graph.specs.Values.{ending_of}
use Rattle.least_set.specs.Logs.{IsExactly}
use Rattle.path_edges.specs.Relations.{LeadsTo}
use Rattle.std.proofs.Common.{Some}

pub returns-in-Goto : goal.returns-in-Goto
returns-in-Goto c =
    let t = c.args.tables.now in
    let a = c.args.edge.now in
    let f = c.args.frame.now in
    if-ok _ _ c.onward.result
    (λ list x k h e b.
    jump-leads t a f (place t a.context.function f k h) c.args.tuples.now b list.items c.in-Goto.targets.items (e ∙ ap (λ (n : End). Some (ending_of n)) c.in-Goto.is)
    (x ∙ ap (flat_map (λ n. map (edge_at a n) c.args.tuples.now)) c.as_slice.ensures.value))
    c.onward.ensures

pub returns-in-Call : goal.returns-in-Call
returns-in-Call c = if-ok _ _ c.at_call.result (λ list x k h e b. x k h (e ∙ ap (λ (n : End). Some (ending_of n)) c.in-Call.is) b) c.at_call.ensures

pub returns-in-Exit : goal.returns-in-Exit
returns-in-Exit c =
    let t = c.args.tables.now in
    let a = c.args.edge.now in
    let f = c.args.frame.now in
    λ k h e b. subst (λ l. IsExactly l (LeadsTo (checker_in t) (texts_in t) (graphs_in t) (objects_in t) a)) (sym c.new.ensures.items)
    (exit-leads t a f (place t a.context.function f k h) (e ∙ ap (λ (n : End). Some (ending_of n)) c.in-Exit.is))
