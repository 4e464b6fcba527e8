-- These theorems as statements, which contracts can name.
use Rattle.std.specs.Prelude.{◌≡◌, ℕ, Bool, List, Some, slice_get}
use Rattle.c_objects.specs.Objects.{Object}
use Rattle.numbered_program.specs.EventTables.Rows.{AreEventRows, IsEventRow}
use Rattle.flow_graph.specs.CPaths.Building.{Graph}
use Rattle.masked_paths.specs.Masked.{EventIn, masked_events}
use Rattle.numbered_program.specs.NumberedEvents.Listed.{AreListed, AreViewsOf, own_of}
use Rattle.numbered_program.specs.NumberedEvents.Saying.{Says}
use Rattle.numbered_paths.specs.RowParts.{IsRowOf}
use Rattle.numbered_paths.specs.Rows.{StandFor}
use Rattle.numbered_paths.specs.Views.{AreNumbers, Views}
use Rattle.block_flows.specs.Masks.{graphs_under, model_under, objects_under, origins_under}
use Rattle.path_model.specs.CheckerModel.Checkers.{model}
use Rattle.path_model.specs.CheckerModel.Choices.{State}
use Rattle.path_model.specs.CheckerModel.Happenings.{Function, Happening}
use Rattle.path_model.specs.CheckerModel.Reports.{Checker}
use Rattle.row_flows.specs.declared.rows.EventRow.{EventRow}
use Rattle.typed_unit.specs.Texts.{Text}

module _ (c : Checker) (ts : List Text) (gs : List Graph) (lists : List (List Object)) (V : Views (model_under c ts lists) (graphs_under c ts gs lists)) where
  -- THE ROW OF AN EVENT STANDS FOR IT, in frames of this kind, where the event is the one with this number of those by which firings are read
  abbrev pub StandsForEvent : ℕ → Function → List Object → Bool → List (EventIn Function Happening) → ℕ → Happening → EventRow → Type 0
  StandsForEvent n f followed k es number h row =
      IsRowOf (model_under c ts lists) (origins_under c ts lists) (objects_under c ts lists) (graphs_under c ts gs lists) V n f k (own_of followed) (Says c es followed) number
      (record { fn = f; event = h }) row

  -- THE ROWS OF A BLOCK'S EVENTS STAND FOR THEM
  abbrev pub StandForEvents : ℕ → Function → List Object → Bool → List Happening → List EventRow → Type 0
  StandForEvents n f followed k hs rows =
      StandFor (model_under c ts lists) (origins_under c ts lists) (objects_under c ts lists) (graphs_under c ts gs lists) V n f k (own_of followed)
      (Says c (masked_events (model c) f hs) followed) (masked_events (model c) f hs) rows

  -- all that is known of a function with this number, and of its lists
  pub record AreNumbersOf (n : ℕ) (f : Function) (followed : List Object) (states : List State) : Type 0 where
    pub listed : AreListed c.machine.rules ts lists f followed states
    pub views : AreViewsOf c ts lists (graphs_under c ts gs lists) V n followed states

abbrev pub RowsStandForEvents : Type 0
RowsStandForEvents = (c : Checker) (ts : List Text) (gs : List Graph) (lists : List (List Object)) (V : Views (model_under c ts lists) (graphs_under c ts gs lists))
    (n : ℕ) (f : Function) (followed : List Object) (states : List State) → AreNumbersOf c ts gs lists V n f followed states
    → (h : Happening) (row : EventRow) → IsEventRow c.machine c.depth h f followed states row
    → (es : List (EventIn Function Happening)) (number : ℕ) → slice_get es number ≡ Some (record { fn = f; event = h })
    → (k : Bool) → StandsForEvent c ts gs lists V n f followed k es number h row

abbrev pub BlocksStandForEvents : Type 0
BlocksStandForEvents = (c : Checker) (ts : List Text) (gs : List Graph) (lists : List (List Object)) (V : Views (model_under c ts lists) (graphs_under c ts gs lists))
    (n : ℕ) (f : Function) (followed : List Object) (states : List State) → AreNumbersOf c ts gs lists V n f followed states
    → AreNumbers (model_under c ts lists) (objects_under c ts lists) (graphs_under c ts gs lists) V → V.function n ≡ Some f
    → (hs : List Happening) (rows : List EventRow) → AreEventRows c.machine c.depth f followed states hs rows
    → (k : Bool) → StandForEvents c ts gs lists V n f followed k hs rows
