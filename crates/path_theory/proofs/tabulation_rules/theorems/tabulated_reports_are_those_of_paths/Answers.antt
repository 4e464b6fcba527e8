use Rattle.path_theory.specs.Numbered.{model, origins_of, graphs_of, objects_of}
use Rattle.path_theory.proofs.NumberedLaws.{numbered_local}
use Rattle.path_theory.proofs.TabulationRules.Reports.{reports}
use Rattle.path_theory.proofs.tabulation_rules.theorems.tabulated_reports_are_those_of_paths.Goals as goal

pub returns : goal.returns
returns start s log tabulated =
    reports (model s.checker) (origins_of s.checker) (objects_of s.checker s.objects) (graphs_of s.checker s.program) s.function log s.numbers tabulated (numbered_local s.checker) s.closed
