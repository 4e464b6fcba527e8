use Rattle.std.proofs.Common.{◌≤◌, length, take}
use Rattle.typed_unit.specs.Texts.{texts_of}
use Rattle.flow_graph.specs.Seen.{graph_in}
use Rattle.function_tables.specs.Tables.{AreBlockTables}
use Rattle.function_tables.proofs.blocks.block_tables.Given as goal
use Rattle.metal_tree.specs.Whole.{machine_view}
use Rattle.typed_unit.specs.Functions.{function_of}

-- the tables of the blocks before this one
abbrev pub invariant-loop-number : goal.invariant-loop-number
invariant-loop-number l = record {
  tables : AreBlockTables (machine_view l.machine) l.depth (texts_of l.program.units.items) (function_of l.function) (take l.number (graph_in l.graph).blocks) l.tables.items;
  within : l.number ≤ length (graph_in l.graph).blocks;
}
