use Rattle.std.proofs.Common.{◌≡◌, ◌≤◌, length}
use Rattle.function_tables.proofs.Gathered.{AreGathered}
use Rattle.function_tables.proofs.graphs.build_graphs.Given as goal
use Rattle.call_graph.specs.OfPrograms.Definitions.{definitions, trees_in}

-- these are the graphs of the functions up to here
abbrev pub invariant-loop-number : goal.invariant-loop-number
invariant-loop-number l = record {
  gathered : AreGathered l.program.units.items l.graphs.items;
  count : length l.graphs.items ≡ l.number;
  within : l.number ≤ length (definitions (trees_in l.program.units.items));
}
