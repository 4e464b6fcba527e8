-- These theorems as statements, which contracts can name.
use Rattle.std.specs.Prelude.{◌≡◌, ◌↔◌, ℕ, List, Some, slice_get}
use Rattle.std.specs.Borrow.{Bor}
use Rattle.flow_graph.specs.CPaths.Building.{Graph}
use Rattle.type_rules.specs.Functions.{Defined}
use Rattle.path_model.specs.CheckerGraphs.Graphs.{AreGraphs, AreApartPlaces, flow_graphs, function_at, graph_at}
use Rattle.path_model.specs.CheckerModel.Checkers.{model, origins}
use Rattle.path_model.specs.CheckerModel.Happenings.{Function}
use Rattle.path_model.specs.CheckerModel.Reports.{Checker}
use Rattle.path_model.specs.CheckerPrograms.Paths.{program}
use Rattle.path_model.specs.CheckerPrograms.Relevant.{Relevant, Followed}
use Rattle.path_model.specs.CheckerPrograms.Texts.{functions_in, function_of, with_close, definition_of}
use Rattle.typed_unit.specs.Texts.{Text, texts_of}
use Rattle.report_model.specs.declared.report.Report.{Report}
use Rattle.path_theory.specs.FlowGraphs.{supergraph}
use Rattle.path_theory.specs.Paths.{Reported}
use Rattle.path_theory.specs.Relevant.{IsClosed}
use Rattle.path_theory.specs.Walks.{HasTraces}
use Rattle.call_graph.specs.OfPrograms.Definitions.{AreNumbered}
use Rattle.typed_unit.specs.declared.typed_unit.TypedUnit.{TypedUnit}

-- the program in blocks has the traces of the program, and no others
abbrev pub GraphsHaveTheTraces : Type 0
GraphsHaveTheTraces = (c : Checker) (ts : List Text) (gs : List Graph) → AreGraphs ts gs
    → HasTraces (model c) (program c ts) (supergraph (model c) (flow_graphs c ts gs)) × HasTraces (model c) (supergraph (model c) (flow_graphs c ts gs)) (program c ts)

-- so it has the program's reports
abbrev pub GraphsReportTheSame : Type 0
GraphsReportTheSame = (c : Checker) (ts : List Text) (gs : List Graph) → AreGraphs ts gs
    → (r : Report) → Reported (model c) (supergraph (model c) (flow_graphs c ts gs)) r ↔ Reported (model c) (program c ts) r

-- and its relevant objects may be followed alone
abbrev pub RelevantObjectsAreClosedInGraphs : Type 0
RelevantObjectsAreClosedInGraphs = (c : Checker) (ts : List Text) (gs : List Graph) → AreGraphs ts gs
    → IsClosed (model c) (supergraph (model c) (flow_graphs c ts gs)) (origins c) (Relevant c ts)

-- and so may those that are followed
abbrev pub FollowedObjectsAreClosedInGraphs : Type 0
FollowedObjectsAreClosedInGraphs = (c : Checker) (ts : List Text) (gs : List Graph) → AreGraphs ts gs
    → IsClosed (model c) (supergraph (model c) (flow_graphs c ts gs)) (origins c) (Followed c ts)

-- no two functions of numbered units stand at one place
abbrev pub FunctionsStandApart : Type 0
FunctionsStandApart = (units : List (Bor TypedUnit)) → AreNumbered units → AreApartPlaces (functions_in (texts_of units))

-- where no two do, a function has one number, and by that its graph and its definition
abbrev pub FunctionsHaveOneNumber : Type 0
FunctionsHaveOneNumber = (ts : List Text) → AreApartPlaces (functions_in ts) → (m n : ℕ) (f : Function) → function_at ts m ≡ Some f → function_at ts n ≡ Some f → m ≡ n

abbrev pub FunctionsHaveTheirGraphs : Type 0
FunctionsHaveTheirGraphs = (ts : List Text) → AreApartPlaces (functions_in ts) → (gs : List Graph) (n : ℕ) (d : Defined) (g : Graph) → slice_get (functions_in ts) n ≡ Some d → slice_get gs n ≡ Some g
    → (graph_at ts gs (function_of d) ≡ g) × (definition_of ts (function_of d) ≡ with_close ts d)
