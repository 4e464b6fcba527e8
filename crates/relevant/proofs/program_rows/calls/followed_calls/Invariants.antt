use Rattle.std.proofs.Common.{◌≤◌, All, length, map}
use Rattle.least_set.specs.Logs.{IsExactly}
use Rattle.relevant.specs.ProgramRows.Ends.{followed_in, SomeHasFollowed, IsSite}
use Rattle.relevant.proofs.program_rows.calls.followed_calls.Given as goal
use Rattle.call_graph.specs.OfPrograms.Definitions.{definitions, trees_in}

-- those of the functions before this one
abbrev pub invariant-loop-caller : goal.invariant-loop-caller
invariant-loop-caller l = record {
  calls : IsExactly (map followed_in l.calls.items) (SomeHasFollowed l.tables l.caller);
  sites : All (IsSite l.program.units.items) l.calls.items;
  within : l.caller ≤ length (definitions (trees_in l.program.units.items));
}
