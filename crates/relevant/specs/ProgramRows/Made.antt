-- THE ROW OF A FUNCTION, out of the tables and the followed calls of its program.
use Rattle.std.specs.Prelude.{◌≡◌, ℕ, List, Contains, map, Some, slice_get}
use Rattle.std.specs.Borrow.{Bor}
use Rattle.flow_graph.specs.CPaths.Events.{Event}
use Rattle.flow_graph.specs.Seen.{graph_in}
use Rattle.flow_graph.specs.Values.{event_of}
use Rattle.function_tables.specs.declared.table.FunctionTable.{FunctionTable}
use Rattle.least_set.specs.Logs.{IsExactly}
use Rattle.relevant.specs.ProgramRows.Ends.{IsUnitOf}
use Rattle.relevant.specs.ProgramRows.Filing.{Meets}
use Rattle.flow_graph.specs.ReachedBlocks.Reached.{Happens}
use Rattle.relevant.specs.declared.relevant_objects.rows.FollowedCall.{FollowedCall}
use Rattle.relevant.specs.declared.relevant_objects.rows.FunctionRow.{FunctionRow}
use Rattle.typed_unit.specs.declared.typed_unit.TypedUnit.{TypedUnit}

-- the event happens in the function with this number, in a block that control reaches
pub record HappensIn (tables : List FunctionTable) (n : ℕ) (e : Event) : Type 0 where
  pub table : FunctionTable
  pub is : slice_get tables n ≡ Some table
  pub happens : Happens (graph_in table.graph.now) e

-- the call is one of these, and comes from the function with this number or leads into it
abbrev pub IsOf : List FollowedCall → ℕ → FollowedCall → Type 0
IsOf calls n k = Contains calls k × Meets n k

-- the row of the function with this number
pub record IsMade (units : List (Bor TypedUnit)) (tables : List FunctionTable) (followed : List FollowedCall) (n : ℕ) (row : FunctionRow) : Type 0 where
  pub unit : IsUnitOf units n row.unit
  pub events : IsExactly (map event_of row.events.items) (HappensIn tables n)
  pub calls : IsExactly row.calls.items (IsOf followed n)

-- the rows of the first functions, by their numbers
abbrev pub AreMade : List (Bor TypedUnit) → List FunctionTable → List FollowedCall → List FunctionRow → Type 0
AreMade units tables calls rows = (n : ℕ) (row : FunctionRow) → slice_get rows n ≡ Some row → IsMade units tables calls n row
