use Rattle.edge_rules.proofs.WaitRules.FoundCalls.{block-there, call-passed, call-followed}
use Rattle.flow_graph.specs.Seen.{graph_in}
use Rattle.function_tables.proofs.EngineTables.Places.{place}
use Rattle.edge_rules.proofs.wait_rules.waiting_sites.objects_of_callee.Goals as goal

pub returns-in-Some : goal.returns-in-Some
returns-in-Some c = λ k n h call next ends.
    let t = c.args.tables.now in
    let f = c.args.frame.now in
    let b = c.args.block in
    let callee = c.in-Some.callee in
    let p = place t n f k h in
    let q = place t callee.number callee.frame k c.in-Some.ensures.there in
    let has = block-there (graph_in f.table.now.graph.now).blocks b call next ends in
    call-followed t n b f p call next ends callee.number callee.frame q (c.in-Some.ensures.followed k n p.defined has.0 call next p.is p.blocks has.1)

pub returns-in-None : goal.returns-in-None
returns-in-None c = λ k n h call next ends.
    let t = c.args.tables.now in
    let f = c.args.frame.now in
    let b = c.args.block in
    let p = place t n f k h in
    let has = block-there (graph_in f.table.now.graph.now).blocks b call next ends in
    call-passed t n b f p call next ends (c.in-None.ensures.followed k n p.defined has.0 call next p.is p.blocks has.1)
