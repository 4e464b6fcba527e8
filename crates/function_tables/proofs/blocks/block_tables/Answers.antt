use Rattle.std.proofs.Common.{◌≤◌, ◌<◌, length, arith}
use Rattle.std.proofs.lemmas.Grind.{common_steps}
use Rattle.typed_unit.specs.Texts.{texts_of}
use Rattle.flow_graph.specs.Seen.{graph_in}
use Rattle.flow_graph.specs.Values.{block_of}
use Rattle.function_tables.proofs.OfBlocks.{blocks-next, blocks-all}
use Rattle.function_tables.proofs.blocks.block_tables.Goals as goal
use Rattle.metal_tree.specs.Whole.{machine_view}
use Rattle.typed_unit.specs.Functions.{function_of}

pub loop-number-preserved : goal.loop-number-preserved
loop-number-preserved c =
    let blocks = (graph_in c.args.graph.now).blocks in
    let further : c.loop-number.number < length blocks = grind (arith, common_steps) in
    record {
      tables = blocks-next (machine_view c.args.machine.now) c.args.depth (texts_of c.args.program.now.units.items) (function_of c.args.function.now) blocks c.loop-number.number (block_of c.block.result.now) c.in_ok-table.table
          c.loop-number.tables.items c.push.new.self.items c.block.ensures c.in_ok-table.ensures c.in_ok-push.ensures.items c.loop-number.invariant.tables;
      within = grind (arith, further);
    }

pub returns : goal.returns
returns c =
    let blocks = (graph_in c.args.graph.now).blocks in
    let all : length blocks ≤ c.loop-number.number = grind (arith, common_steps) in
    blocks-all (machine_view c.args.machine.now) c.args.depth (texts_of c.args.program.now.units.items) (function_of c.args.function.now) blocks c.loop-number.number c.loop-number.tables.items all c.loop-number.invariant.tables
