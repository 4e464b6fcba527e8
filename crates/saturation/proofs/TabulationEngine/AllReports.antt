-- The reports that the edges of a least log show are those of the program.
use Rattle.std.proofs.Common.{◌↔◌, List, Contains}
use Rattle.std.proofs.Math.Logic.{∥∥₁_map, ∥∥₁_elim}
use Rattle.path_model.specs.CheckerModel.Checkers.{model}
use Rattle.path_model.specs.CheckerPrograms.Paths.{program}
use Rattle.function_tables.specs.EngineTables.Known.{AreKnown, checker_in, texts_in, graphs_in, objects_in}
use Rattle.function_tables.specs.declared.engine_tables.tables.Tables.{Tables}
use Rattle.least_set.specs.Logs.{IsExactly, SomeGives}
use Rattle.path_edges.specs.declared.edges.Edge.{Edge}
use Rattle.path_edges.specs.Relations.{IsClosedLog, IsLeastLog, ShowsAt}
use Rattle.block_flows.specs.Masks.{AreEnough}
use Rattle.path_edges.specs.Theorems.{LeastEdgesReport}
use Rattle.path_theory.specs.Paths.{Reported}
use Rattle.report_model.specs.declared.report.Report.{Report}

pub all-reports : (t : Tables) (log : List Edge) (list : List Report) → LeastEdgesReport → ∥ AreKnown t ∥₁ → ∥ AreEnough (checker_in t) (texts_in t) (graphs_in t) (objects_in t) ∥₁
    → IsClosedLog (checker_in t) (texts_in t) (graphs_in t) (objects_in t) log → IsLeastLog (checker_in t) (texts_in t) (graphs_in t) (objects_in t) log
    → (AreKnown t → IsExactly list (SomeGives (ShowsAt (checker_in t) (texts_in t) (graphs_in t) (objects_in t)) log))
    → ∥ ((r : Report) → Contains list r ↔ Reported (model (checker_in t)) (program (checker_in t) (texts_in t)) r) ∥₁
all-reports t log list theorem known enough closed only exact =
    ∥∥₁_elim known squash₁ (λ k.
    ∥∥₁_elim enough squash₁ (λ e.
    ∥∥₁_map (theorem (checker_in t) (texts_in t) (graphs_in t) k.tables.graphs (objects_in t) e log closed only)
    (λ shown r. (λ m. (shown r).0 ((exact k).0 r m), λ p. (exact k).1 r ((shown r).1 p)))))
