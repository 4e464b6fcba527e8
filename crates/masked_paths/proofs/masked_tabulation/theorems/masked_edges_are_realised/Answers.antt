use Rattle.path_theory.specs.Numbered.{model, origins_of, graphs_of}
use Rattle.path_theory.proofs.NumberedLaws.{numbered_local}
use Rattle.masked_paths.specs.Theorems.{mask_of}
use Rattle.masked_paths.proofs.MaskedTabulation.MaskedReports.{log_realised}
use Rattle.masked_paths.proofs.masked_tabulation.theorems.masked_edges_are_realised.Goals as goal

pub returns : goal.returns
returns k s closed log least = log_realised (model s.checker) (origins_of s.checker) (numbered_local s.checker) (mask_of s.checker s.objects s.loose) (graphs_of s.checker s.program) s.function s.numbers log least closed
