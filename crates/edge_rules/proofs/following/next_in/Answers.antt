use Rattle.std.proofs.Common.{◌∙◌, sym, ap, subst}
use Rattle.std.specs.Option.{option_map}
use Rattle.edge_rules.proofs.Followed.{no-block-leads}
use Rattle.edge_rules.proofs.following.next_in.Goals as goal
use Rattle.function_tables.proofs.EngineTables.Places.{if-ok, place}
use Rattle.function_tables.specs.EngineTables.Known.{checker_in, texts_in, graphs_in, objects_in}
use Rattle.flow_graph.specs.Values.{ending_of}
use Rattle.least_set.specs.Logs.{IsExactly}
use Rattle.path_edges.specs.Relations.{LeadsTo}

pub returns-in-Some : goal.returns-in-Some
returns-in-Some c = if-ok _ _ c.behind_end.result (λ list x k h b. x k h (sym c.end_at.ensures ∙ ap (option_map (λ e. ending_of e.now)) c.in-Some.is) b) c.behind_end.ensures

pub returns-in-None : goal.returns-in-None
returns-in-None c =
    let t = c.args.tables.now in
    let e = c.args.edge.now in
    let f = c.args.frame.now in
    λ k h b. subst (λ l. IsExactly l (LeadsTo (checker_in t) (texts_in t) (graphs_in t) (objects_in t) e)) (sym c.new.ensures.items)
    (no-block-leads t e f (place t e.context.function f k h) (sym c.end_at.ensures ∙ ap (option_map (λ e. ending_of e.now)) c.in-None.is))
