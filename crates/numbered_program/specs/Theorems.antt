-- The theorem on rows as a statement, which contracts can name.
use Rattle.std.specs.Prelude.{◌≡◌, ◌↔◌, ℕ, List, Some, slice_get, Contains}
use Rattle.c_objects.specs.Objects.{Object}
use Rattle.flow_graph.specs.CPaths.Building.{Graph}
use Rattle.function_tables.specs.EngineTables.Known.{AreKnown, checker_in, texts_in, graphs_in, objects_in}
use Rattle.function_tables.specs.declared.engine_tables.tables.Tables.{Tables}
use Rattle.least_set.specs.Logs.{IsOnce}
use Rattle.numbered_engine.specs.declared.program.ProgramRows.{ProgramRows}
use Rattle.numbered_paths.specs.Tables.{AreTables}
use Rattle.numbered_paths.specs.Views.{AreNumbers}
use Rattle.numbered_program.specs.Rows.{AreRowsOf}
use Rattle.numbered_program.specs.Views.{SaysIn, views}
use Rattle.numbered_program.specs.NumberedTuples.ObjectStates.{states_of_rules}
use Rattle.block_flows.specs.Masks.{graphs_under, model_under, objects_under, origins_under}
use Rattle.path_model.specs.CheckerModel.Choices.{State}
use Rattle.path_model.specs.CheckerModel.Reports.{Checker}
use Rattle.path_theory.specs.Merged.{Kinds}
use Rattle.typed_unit.specs.Texts.{Text}

-- no two numbers stand for one thing, and there are kinds of frames with which the rows stand for the program under its checker
pub record StandForProgram (c : Checker) (ts : List Text) (gs : List Graph) (lists : List (List Object)) (states : List State) (p : ProgramRows) : Type 0 where
  pub numbers : AreNumbers (model_under c ts lists) (objects_under c ts lists) (graphs_under c ts gs lists) (views c ts gs lists states)
  pub kinds : Kinds (model_under c ts lists) (graphs_under c ts gs lists)
  pub tables : AreTables (model_under c ts lists) (origins_under c ts lists) (objects_under c ts lists) (graphs_under c ts gs lists) kinds (views c ts gs lists states) (SaysIn c ts gs lists states) p

-- the states have numbers that the rules name, each once
pub record AreStatesOf (c : Checker) (states : List State) : Type 0 where
  pub named : (x : State) → Contains states x ↔ Contains (states_of_rules c.machine.rules) x
  pub once : IsOnce states

-- ROWS THAT ARE THOSE OF TABLES STAND FOR THE PROGRAM, where each followed object is in its list once
abbrev pub RowsStandForPrograms : Type 0
RowsStandForPrograms = (t : Tables) (states : List State) (p : ProgramRows) → AreKnown t → AreStatesOf (checker_in t) states
    → ((n : ℕ) (os : List Object) → slice_get (objects_in t) n ≡ Some os → IsOnce os)
    → AreRowsOf (checker_in t) (texts_in t) (graphs_in t) (objects_in t) states p
    → StandForProgram (checker_in t) (texts_in t) (graphs_in t) (objects_in t) states p
