use Rattle.std.proofs.Common.{true, refl}
use Rattle.std.specs.List.{Contains}
use Rattle.path_theory.specs.Numbered.{model, origins_of, graphs_of, block_supergraph_of, exits_of}
use Rattle.path_theory.proofs.NumberedLaws.{numbered_local}
use Rattle.path_theory.proofs.FlatPaths.{in_errors}
use Rattle.masked_paths.specs.Theorems.{mask_of}
use Rattle.masked_paths.proofs.MaskedEngine.{masked_log_reports}
use Rattle.masked_paths.proofs.MaskedEntries.{masked_log_entries}
use Rattle.masked_paths.proofs.theorems.masked_log_is_exact.Goals as goal

pub returns-clause-reports : goal.returns-clause-reports
returns-clause-reports k s enough log least r =
    let x = masked_log_reports (model s.checker) (origins_of s.checker) (numbered_local s.checker) (mask_of s.checker s.objects true) (graphs_of s.checker s.program) enough refl s.kinds (exits_of s.checker s.exits s.same s.quiet) s.apart (Contains log) least r in
    let y = in_errors (model s.checker) (block_supergraph_of s.checker s.program) r in ((λ w. y.1 (x.0 w)), (λ w. x.1 (y.0 w)))

pub returns-clause-entries : goal.returns-clause-entries
returns-clause-entries k s closed log least = masked_log_entries (model s.checker) (origins_of s.checker) (numbered_local s.checker) (mask_of s.checker s.objects true) (graphs_of s.checker s.program) closed refl s.kinds (exits_of s.checker s.exits s.same s.quiet) s.apart (Contains log) least
