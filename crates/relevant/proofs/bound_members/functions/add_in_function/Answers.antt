use Rattle.std.proofs.Common.{sym, subst}
use Rattle.relevant.proofs.BoundMembers.Binding.{in-blocks}
use Rattle.relevant.proofs.bound_members.functions.add_in_function.Goals as goal
use Rattle.flow_graph.specs.Seen.{graph_in}
use Rattle.function_tables.specs.Tables.{AreBlockTables}
use Rattle.flow_graph.specs.ReachedBlocks.Reached.{AreReached}
use Rattle.relevant.proofs.RelevantObjects.Gathered.{if-ok}

pub returns : goal.returns
returns c =
    let graph = graph_in c.args.table.now.graph.now in
    if-ok _ _ c.add_in_blocks.result
    (λ u added m depth ts d are.
    let tables = subst (AreBlockTables m depth ts d graph.blocks) (sym c.as_slice.ensures.value) are in
    let reached = subst (AreReached graph) (sym c.as_slice-2.ensures.value) c.in_ok-blocks.ensures in
    in-blocks c.args.sources m depth c.args.number ts d graph c.as_slice-2.result.now c.args.found.now.items c.add_in_blocks.new.found.items reached (added m depth ts d graph.blocks tables))
    c.add_in_blocks.ensures
