use Rattle.std.proofs.Common.{◌≤◌, length}
use Rattle.function_tables.proofs.OfFunctions.{AreFirst, HaveFirst}
use Rattle.function_tables.proofs.tables.build_tables.Given as goal
use Rattle.metal_tree.specs.Whole.{machine_view}
use Rattle.call_graph.specs.OfPrograms.Definitions.{definitions, trees_in}

-- the tables of the functions before this one, with their graphs
abbrev pub invariant-loop-number : goal.invariant-loop-number
invariant-loop-number l = record {
  tables : AreFirst (machine_view l.machine) l.depth l.program.units.items l.number l.tables.items;
  graphs : HaveFirst l.graphs l.number l.tables.items;
  within : l.number ≤ length (definitions (trees_in l.program.units.items));
}
