use Rattle.std.proofs.Common.{◌∙◌, ap}
use Rattle.flow_graph.specs.Seen.{graph_in}
use Rattle.path_edges.specs.EdgeSteps.Steps.{first_edges}
use Rattle.edge_rules.proofs.Beginnings.{first-exactly}
use Rattle.function_tables.proofs.EngineTables.Places.{if-ok, place}
use Rattle.edge_rules.proofs.base.first_in.Goals as goal

pub returns : goal.returns
returns c =
    let t = c.args.tables.now in
    let n = c.args.function in
    let f = c.args.frame.now in
    let objects = c.as_slice-objects.result.now in
    if-ok _ _ c.first_edges.result
    (λ list x k h. first-exactly t n f (place t n f k h) list.items
    (x ∙ ap (λ b. first_edges n b objects) c.entry.ensures.number ∙ ap (first_edges n (graph_in f.table.now.graph.now).entry) c.as_slice-objects.ensures.keys))
    c.first_edges.ensures
