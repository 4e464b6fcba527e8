-- THE ROW OF AN EVENT: what it does to the objects that are followed, by number.
use Rattle.std.specs.Prelude.{◌≡◌, ℕ, List, map}
use Rattle.std.specs.List.{AllZip}
use Rattle.c_objects.specs.Objects.{Object}
use Rattle.numbered_program.specs.EventTables.Alternatives.{alternative_row}
use Rattle.numbered_program.specs.EventTables.Touched.{touched_rows}
use Rattle.metal_tree.specs.MetalMachines.Machine.{Machine}
use Rattle.path_model.specs.CheckerModel.Choices.{State, is_exit, scene}
use Rattle.path_model.specs.CheckerModel.Happenings.{Function, Happening}
use Rattle.path_model.specs.CheckerModel.Moves.{move_of}
use Rattle.row_flows.specs.declared.rows.EventRow.{EventRow}
use Rattle.state_tuples.specs.AppliedRules.Applied.{applied_at}

-- it has the followed objects that the event's move touches, the alternatives that apply, and whether it ends the function
pub record IsEventRow (m : Machine) (depth : ℕ) (h : Happening) (f : Function) (followed : List Object) (states : List State) (row : EventRow) : Type 0 where
  pub touched : row.touched.items ≡ touched_rows depth (move_of h.facts depth h.event) followed
  pub applied : row.applied.items ≡ map (alternative_row followed states (scene m depth h f) h.event) (applied_at (scene m depth h f) h.event m.rules)
  pub end : row.is_exit ≡ is_exit h.event

-- the rows of events, one by one
abbrev pub AreEventRows : Machine → ℕ → Function → List Object → List State → List Happening → List EventRow → Type 0
AreEventRows m depth f followed states hs rows = AllZip (λ h row. IsEventRow m depth h f followed states row) hs rows
