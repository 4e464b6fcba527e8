-- ROWS THAT STAND FOR THE PROGRAM of some tables, by numbers of the states that its checker names.
use Rattle.std.specs.Prelude.{List}
use Rattle.function_tables.specs.EngineTables.Known.{checker_in, texts_in, graphs_in, objects_in}
use Rattle.function_tables.specs.declared.engine_tables.tables.Tables.{Tables}
use Rattle.numbered_engine.specs.declared.program.ProgramRows.{ProgramRows}
use Rattle.numbered_program.specs.Theorems.{StandForProgram}
use Rattle.path_model.specs.CheckerModel.Choices.{State}

pub record AreStanding (t : Tables) (p : ProgramRows) : Type 0 where
  pub states : List State
  pub stand : StandForProgram (checker_in t) (texts_in t) (graphs_in t) (objects_in t) states p
