use Rattle.std.proofs.Common.{◌∙◌}
use Rattle.flow_graph.proofs.ReachedBlocks.Listing.{exactly-among, if-ok}
use Rattle.flow_graph.proofs.reached_blocks.onward.behind.Goals as goal

pub returns-in-Goto : goal.returns-in-Goto
returns-in-Goto c =
    rw c.in-Goto.is (if-ok _ _ c.from_slice.result (λ list is. exactly-among c.in-Goto.targets.items list.items (is ∙ c.as_slice.ensures.value)) c.from_slice.ensures.items)
