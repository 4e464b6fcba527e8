use Rattle.std.proofs.Common.{◌≡◌, ◌≤◌, ℕ, List, Some, length, slice_get}
use Rattle.call_graph.specs.OfPrograms.Definitions.{definitions, trees_in}
use Rattle.function_tables.specs.EngineTables.Known.{AreKnown, objects_in}
use Rattle.numbered_engine.specs.declared.program.FunctionRows.{FunctionRows}
use Rattle.numbered_program.specs.Made.{AreRowsAt}
use Rattle.numbered_program.specs.Numbered.{AreNumbered, AreRootsOf}
use Rattle.path_model.specs.CheckerModel.Choices.{State}
use Rattle.numbered_program.proofs.functions.all_functions.Given as goal

-- the rows of the functions before this one
abbrev pub invariant-loop-function : goal.invariant-loop-function
invariant-loop-function l = record {
  made : (states : List State) → AreKnown l.tables → AreNumbered states (objects_in l.tables) l.numbers → AreRootsOf l.tables l.roots.keys → (n : ℕ) (r : FunctionRows) → slice_get l.functions.items n ≡ Some r
      → AreRowsAt l.tables states n r;
  count : length l.functions.items ≡ l.function;
  within : l.function ≤ length (definitions (trees_in l.tables.program.now.units.items));
}
