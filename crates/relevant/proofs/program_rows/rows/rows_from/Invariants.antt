use Rattle.std.proofs.Common.{◌≡◌, ◌≤◌, length}
use Rattle.relevant.specs.ProgramRows.Made.{AreMade}
use Rattle.relevant.proofs.program_rows.rows.rows_from.Given as goal
use Rattle.call_graph.specs.OfPrograms.Definitions.{definitions, trees_in}

-- the rows of the functions before this one
abbrev pub invariant-loop-number : goal.invariant-loop-number
invariant-loop-number l = record {
  count : length l.rows.items ≡ l.number;
  made : AreMade l.program.units.items l.tables l.calls l.rows.items;
  within : l.number ≤ length (definitions (trees_in l.program.units.items));
}
