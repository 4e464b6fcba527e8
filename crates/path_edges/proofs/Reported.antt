-- A least list of edges shows exactly what the checker reports of the program.
use Rattle.std.proofs.Common.{List, ◌↔◌}
use Rattle.std.proofs.Math.Logic.{∥∥₁_map}
use Rattle.c_objects.specs.Objects.{Object}
use Rattle.block_flows.specs.FollowedLists.{mask_in}
use Rattle.flow_graph.specs.CPaths.Building.{Graph}
use Rattle.masked_paths.proofs.MaskedTabulation.OwnReports.{masked_somehow_reported}
use Rattle.path_model.specs.CheckerGraphs.Graphs.{AreGraphs, flow_graphs, function_at}
use Rattle.path_model.specs.CheckerModel.Checkers.{model, origins}
use Rattle.path_model.specs.CheckerModel.Reports.{Checker}
use Rattle.path_model.proofs.CheckerModel.Laws.{local}
use Rattle.path_model.specs.CheckerPrograms.Paths.{program}
use Rattle.typed_unit.specs.Texts.{Text}
use Rattle.path_model.proofs.CheckerGraphs.GraphTraces.{graphs_report}
use Rattle.least_set.specs.Logs.{SomeGives}
use Rattle.path_edges.specs.declared.edges.Edge.{Edge}
use Rattle.path_edges.specs.Edges.{edge_in, context_in, waiter_in}
use Rattle.path_edges.specs.Relations.{Begins, LeadsTo, WaitsAt, IsEndOf, IsWoken, ShowsAt, IsClosedLog, IsLeastLog}
use Rattle.block_flows.specs.Masks.{AreEnough}
use Rattle.path_edges.proofs.Numbers.{have-numbers}
use Rattle.path_edges.proofs.Values.{sound, complete}
use Rattle.report_model.specs.declared.report.Report.{Report}
use Rattle.path_theory.specs.Paths.{Reported}

pub reported : (c : Checker) (ts : List Text) (gs : List Graph) → AreGraphs ts gs → (lists : List (List Object)) → AreEnough c ts gs lists
    → (log : List Edge) → IsClosedLog c ts gs lists log → IsLeastLog c ts gs lists log
    → ∥ ((r : Report) → SomeGives (ShowsAt c ts gs lists) log r ↔ Reported (model c) (program c ts) r) ∥₁
reported c ts gs are lists enough log has only =
    ∥∥₁_map
    (masked_somehow_reported (model c) (origins c) (local c) (mask_in c ts lists) (flow_graphs c ts gs) (function_at ts) (have-numbers c ts gs) enough edge_in context_in (waiter_in c ts gs)
    (Begins c ts gs lists) (LeadsTo c ts gs lists) (WaitsAt c ts gs lists) (IsEndOf c ts gs lists) (IsWoken c ts gs lists)
    (complete c ts gs lists) (sound c ts gs lists) log has only)
    (λ shown r. let s = graphs_report ts gs are c r in (λ x. s.0 ((shown r).0 x), λ x. (shown r).1 (s.1 x)))
