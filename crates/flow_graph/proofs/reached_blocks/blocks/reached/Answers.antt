use Rattle.std.proofs.Common.{◌∙◌}
use Rattle.flow_graph.specs.Seen.{graph_in}
use Rattle.flow_graph.proofs.ReachedBlocks.Listing.{are-reached, if-ok}
use Rattle.flow_graph.proofs.reached_blocks.blocks.reached.Goals as goal

pub returns : goal.returns
returns c =
    let log = c.in_ok-found.found.keys in
    let found = c.in_ok-found.ensures in
    if-ok _ _ c.from_slice.result (λ list is. are-reached (graph_in c.args.graph.now) log list.items (is ∙ c.as_slice.ensures.keys) found.closed found.only found.once) c.from_slice.ensures.items
