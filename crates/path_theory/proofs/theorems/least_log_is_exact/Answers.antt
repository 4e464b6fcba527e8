use Rattle.std.specs.List.{Contains}
use Rattle.path_theory.specs.FlowGraphs.{supergraph}
use Rattle.path_theory.specs.Numbered.{model, origins_of, graphs_of, objects_of, exits_of}
use Rattle.path_theory.proofs.NumberedLaws.{numbered_local}
use Rattle.path_theory.proofs.FlatPaths.{in_errors}
use Rattle.path_theory.proofs.Engine.{engine_entries, engine_reports}
use Rattle.path_theory.proofs.theorems.least_log_is_exact.Goals as goal

pub returns-clause-reports : goal.returns-clause-reports
returns-clause-reports k s log least r =
    let shown = engine_reports (model s.checker) (origins_of s.checker) (objects_of s.checker s.objects) (graphs_of s.checker s.program) s.kinds (exits_of s.checker s.exits s.same s.quiet) s.apart (numbered_local s.checker) s.closed (Contains log) least r in
    let errors = in_errors (model s.checker) (supergraph (model s.checker) (graphs_of s.checker s.program)) r in
    ((λ w. errors.1 (shown.0 w)), (λ w. shown.1 (errors.0 w)))

pub returns-clause-entries : goal.returns-clause-entries
returns-clause-entries k s log least = engine_entries (model s.checker) (origins_of s.checker) (objects_of s.checker s.objects) (graphs_of s.checker s.program) s.kinds (exits_of s.checker s.exits s.same s.quiet) s.apart (numbered_local s.checker) s.closed (Contains log) least
