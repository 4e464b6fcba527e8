-- The theorems on edges as statements, which contracts can name.
use Rattle.std.specs.Prelude.{◌≡◌, ◌↔◌, ℕ, List, [], Some, slice_get}
use Rattle.block_flows.specs.Masks.{AreEnough}
use Rattle.c_objects.specs.Objects.{Object}
use Rattle.flow_graph.specs.CPaths.Building.{Graph}
use Rattle.masked_paths.specs.Met.{CoversBlocks}
use Rattle.path_model.specs.CheckerGraphs.Graphs.{AreGraphs, flow_graphs}
use Rattle.path_model.specs.CheckerModel.Checkers.{model}
use Rattle.path_model.specs.CheckerModel.Reports.{Checker}
use Rattle.path_model.specs.CheckerPrograms.Paths.{program}
use Rattle.typed_unit.specs.Texts.{Text}
use Rattle.least_set.specs.Logs.{SomeGives}
use Rattle.path_edges.specs.declared.edges.Edge.{Edge}
use Rattle.path_edges.specs.MetStates.{stands_in}
use Rattle.path_edges.specs.Relations.{IsClosedLog, IsLeastLog, ShowsAt}
use Rattle.report_model.specs.declared.report.Report.{Report}
use Rattle.path_theory.specs.Paths.{Reported}

abbrev pub LeastEdgesReport : Type 0
LeastEdgesReport = (c : Checker) (ts : List Text) (gs : List Graph) → AreGraphs ts gs → (lists : List (List Object)) → AreEnough c ts gs lists
    → (log : List Edge) → IsClosedLog c ts gs lists log → IsLeastLog c ts gs lists log
    → ∥ ((r : Report) → SomeGives (ShowsAt c ts gs lists) log r ↔ Reported (model c) (program c ts) r) ∥₁

-- edges where no object is followed meet the global states with which paths come to the first places of blocks
abbrev pub EmptyEdgesMeet : Type 0
EmptyEdgesMeet = (c : Checker) (ts : List Text) (gs : List Graph) → AreGraphs ts gs → (lists : List (List Object))
    → ((n : ℕ) (os : List Object) → slice_get lists n ≡ Some os → os ≡ []) → (log : List Edge) → IsClosedLog c ts gs lists log
    → ∥ CoversBlocks (model c) (flow_graphs c ts gs) (stands_in c ts gs log) ∥₁
