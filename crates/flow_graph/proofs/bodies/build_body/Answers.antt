use Rattle.std.proofs.Common.{◌≡◌, ℕ, List, [], ap, subst}
use Rattle.c_tree.specs.Views.{node_of}
use Rattle.flow_graph.specs.CPaths.Traces.{Definition}
use Rattle.flow_graph.specs.CPaths.TreeFlow.{flow_of}
use Rattle.flow_graph.specs.CPaths.Building.{graph_of, flow_blocks}
use Rattle.flow_graph.specs.declared.statements.BodyBuilder.{BodyBuilder}
use Rattle.flow_graph.specs.Values.{blocks_of, drafts_of}
use Rattle.flow_graph.specs.Seen.{graph_in}
use Rattle.flow_graph.specs.Statements.{IsPlaced}
use Rattle.flow_graph.proofs.Whole.{graph_is, dead_is, is_graph_of, joined_replaced, replaced_then, has_traces, is_sound, stands_in_text}
use Rattle.flow_graph.proofs.bodies.build_body.Goals as goal

pub returns : goal.returns
returns g c =
    let F = g.F.Facts.known c.args.facts.now in
    let body = node_of c.args.body.now in
    let d : Definition = record { place = c.args.function; body = body; close = c.args.close } in
    let entry = c.in_ok-entry.entry in
    let bs = blocks_of c.in_ok-blocks.blocks.items in
    let cs = blocks_of c.join_all.new.blocks.items in
    let first : BodyBuilder = record { blocks = c.exit.new.self; labels = c.new-builder.result.labels } in
    let at_dead = dead_is _ (drafts_of c.new-builder.result.blocks.drafts.items) c.new.result.items (ap drafts_of c.new-builder.ensures.blocks) c.new.ensures.items c.in_ok-dead.ensures in
    let placed =
    subst (λ (xs : List ℕ). IsPlaced first c.statement.new.self xs c.statement.new.cases.items entry (flow_blocks (flow_of F c.args.function body) c.in_ok-last.last c.in_ok-dead.dead c.in_ok-dead.dead (drafts_of c.exit.new.self.drafts.items)))
    c.new-cases.ensures.items c.in_ok-entry.ensures in
    let built : graph_is bs entry ≡ graph_of F d =
    is_graph_of F c.args.function c.args.close body first c.statement.new.self c.silent.new.self.drafts.items c.in_ok-dead.dead c.in_ok-last.last entry c.statement.new.cases.items bs
    at_dead c.in_ok-last.ensures c.new-builder.ensures.labels placed c.in_ok-blocks.ensures in
    let straight = graph_in c.in_ok-straight.straight in
    let graph = graph_in c.in_ok-graph.graph in
    let led = joined_replaced bs cs entry straight c.in_ok-join_all.ensures c.in_ok-straight.ensures in
    let sound = is_sound F d straight bs entry built led in
    let kept = replaced_then (graph_is bs entry) straight graph led (c.in_ok-graph.ensures.replaces sound) in record {
      traces = has_traces F d graph bs entry built kept;
      sound = is_sound F d graph bs entry built kept;
      text = stands_in_text F d graph bs entry built kept;
      reached = c.in_ok-graph.ensures.reached sound;
    }
