-- WHAT EDGES SHOW over the rows of tables: the reports that their firings say.
use Rattle.std.specs.Prelude.{List}
use Rattle.function_tables.specs.EngineTables.Known.{checker_in, texts_in, graphs_in, objects_in}
use Rattle.function_tables.specs.declared.engine_tables.tables.Tables.{Tables}
use Rattle.numbered_engine.specs.declared.edges.NumberedEdge.{NumberedEdge}
use Rattle.numbered_engine.specs.declared.program.ProgramRows.{ProgramRows}
use Rattle.numbered_paths.specs.Reports.{EdgeShows}
use Rattle.numbered_program.specs.Views.{SaysIn}
use Rattle.block_flows.specs.Masks.{model_under}
use Rattle.path_model.specs.CheckerModel.Choices.{State}
use Rattle.report_model.specs.declared.report.Report.{Report}
use Rattle.row_flows.specs.declared.behind.Firing.{Firing}

-- a firing says the report at the block of an edge
abbrev pub SaysAtEdge : Tables → List State → NumberedEdge → Firing → Report → Type 0
SaysAtEdge t states e = SaysIn (checker_in t) (texts_in t) (graphs_in t) (objects_in t) states e.context.function e.block

-- an edge shows the report
abbrev pub ShowsIn : Tables → List State → ProgramRows → NumberedEdge → Report → Type 0
ShowsIn t states p e r =
    EdgeShows (model_under (checker_in t) (texts_in t) (objects_in t)) (SaysIn (checker_in t) (texts_in t) (graphs_in t) (objects_in t) states) p e r
