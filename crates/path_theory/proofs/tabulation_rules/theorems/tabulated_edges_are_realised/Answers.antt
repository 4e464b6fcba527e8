use Rattle.std.proofs.Common.{Contains}
use Rattle.path_theory.specs.Numbered.{model, origins_of, graphs_of, objects_of}
use Rattle.path_theory.proofs.NumberedLaws.{numbered_local}
use Rattle.path_theory.proofs.TabulationRules.Closed.{least_set}
use Rattle.path_theory.proofs.TabulationRules.Reports.{realised}
use Rattle.path_theory.proofs.tabulation_rules.theorems.tabulated_edges_are_realised.Goals as goal

pub returns : goal.returns
returns start s log tabulated =
    let exact = least_set (model s.checker) (origins_of s.checker) (objects_of s.checker s.objects) (graphs_of s.checker s.program) s.function log tabulated in
    realised (model s.checker) (origins_of s.checker) (objects_of s.checker s.objects) (graphs_of s.checker s.program) s.function (Contains log) s.numbers exact (numbered_local s.checker) s.closed
