use Rattle.std.proofs.Common.{refl}
use Rattle.c_tree.specs.Views.{node_of}
use Rattle.path_model.specs.CheckerPrograms.Texts.{function_of, site}
use Rattle.edge_rules.proofs.Followed.{followed-leads, passed-leads}
use Rattle.edge_rules.proofs.following.at_call.Goals as goal
use Rattle.function_tables.proofs.EngineTables.Places.{ending-there, if-ok, place}
use Rattle.function_tables.specs.EngineTables.Known.{checker_in, texts_in}
use Rattle.flow_graph.specs.Seen.{graph_in}

pub returns-in_default : goal.returns-in_default
returns-in_default c =
    let t = c.args.tables.now in
    let a = c.args.edge.now in
    let f = c.args.frame.now in
    let call = node_of c.args.call.now in
    if-ok _ _ c.onward.result
    (λ list x k h e b.
    let p = place t a.context.function f k h in
    let has = ending-there (graph_in f.table.now.graph.now).blocks a.block _ e in
    let none = c.in_default.ensures.followed k a.context.function p.defined has.0 call c.args.next p.is p.blocks has.1 in
    passed-leads t a f p c.args.tuples.now b list.items call c.args.next e none x)
    c.onward.ensures

pub returns-in-Some-site : goal.returns-in-Some-site
returns-in-Some-site c =
    let t = c.args.tables.now in
    let a = c.args.edge.now in
    let f = c.args.frame.now in
    let call = node_of c.args.call.now in
    let callee = c.in-Some.callee in
    if-ok _ _ c.entered_edges.result
    (λ list x k h e b.
    let p = place t a.context.function f k h in
    let has = ending-there (graph_in f.table.now.graph.now).blocks a.block _ e in
    let q = place t callee.number callee.frame k c.in-Some.ensures.there in
    let followed = c.in-Some.ensures.followed k a.context.function p.defined has.0 call c.args.next p.is p.blocks has.1 in
    let same = c.in-Some-site.ensures.there p.defined p.is in
    followed-leads t a f p c.args.tuples.now b list.items call c.args.next callee.number callee.frame q followed e
    (x (checker_in t) (site t.depth (texts_in t) (function_of p.defined) call) (function_of q.defined) refl same))
    c.entered_edges.ensures
