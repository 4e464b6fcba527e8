-- THE MOVES AND THE FOLLOWED CALLS of the rows of functions.
use Rattle.std.specs.Prelude.{◌≡◌, ◌<◌, ℕ, List, Contains, true, is_some, Some, slice_get}
use Rattle.std.specs.Borrow.{Bor}
use Rattle.flow_graph.specs.declared.event.Event.{Event}
use Rattle.flow_graph.specs.Values.{event_of}
use Rattle.known_objects.specs.declared.changes.Move.{Move}
use Rattle.known_objects.specs.declared.changes.Numbered.{Numbered}
use Rattle.least_set.specs.Logs.{SomeGives}
use Rattle.objects.specs.Units.{facts_in}
use Rattle.path_model.specs.CheckerModel.Moves.{move_of}
use Rattle.relevant.specs.declared.relevant_objects.rows.FollowedCall.{FollowedCall}
use Rattle.relevant.specs.declared.relevant_objects.rows.FunctionRow.{FunctionRow}
use Rattle.typed_unit.specs.declared.typed_unit.TypedUnit.{TypedUnit}

-- an event of the function with a number, in its unit, that writes over something
abbrev pub IsMoveAt : ℕ → ℕ → Bor TypedUnit → Event → Move → Type 0
IsMoveAt depth n unit e x = (is_some (move_of (facts_in unit.now) depth (event_of e)) ≡ true) × (record { function = n; event = e; unit = unit } ≡ x)

abbrev pub IsMoveIn : ℕ → ℕ → FunctionRow → Move → Type 0
IsMoveIn depth n row = SomeGives (IsMoveAt depth n row.unit) row.events.items

-- of the row with this number
abbrev pub IsMoveOf : ℕ → List FunctionRow → ℕ → Move → Type 0
IsMoveOf depth rows n x = (row : FunctionRow) × (slice_get rows n ≡ Some row) × IsMoveIn depth n row x

-- of one of the first rows, so many
abbrev pub SomeIsMoveIn : ℕ → List FunctionRow → ℕ → Move → Type 0
SomeIsMoveIn depth rows count x = (n : ℕ) × (n < count) × IsMoveOf depth rows n x

abbrev pub call_in : Numbered → FollowedCall
call_in x = x.call

-- each has its place as its number
abbrev pub AreNumbered : List Numbered → Type 0
AreNumbered calls = (x : Numbered) → Contains calls x → slice_get calls x.number ≡ Some x

-- this call comes from the function with the number
abbrev pub IsCallFrom : ℕ → FollowedCall → FollowedCall → Type 0
IsCallFrom n k x = (k.caller ≡ n) × (k ≡ x)

abbrev pub IsCallOf : List FunctionRow → ℕ → FollowedCall → Type 0
IsCallOf rows n x = (row : FunctionRow) × (slice_get rows n ≡ Some row) × SomeGives (IsCallFrom n) row.calls.items x

abbrev pub SomeIsCallIn : List FunctionRow → ℕ → FollowedCall → Type 0
SomeIsCallIn rows count x = (n : ℕ) × (n < count) × IsCallOf rows n x
