use Rattle.path_theory.specs.Numbered.{model, origins_of, supergraph_of, objects_of}
use Rattle.path_theory.proofs.NumberedLaws.{numbered_local}
use Rattle.path_theory.proofs.FlatPaths.{in_errors}
use Rattle.path_theory.proofs.Reports.{reports}
use Rattle.path_theory.proofs.theorems.reports_are_those_of_paths.Goals as goal

pub returns : goal.returns
returns k c p a closed r =
    let found = reports (model c) (supergraph_of c p) (origins_of c) (numbered_local c) (objects_of c a) closed r in
    let errors = in_errors (model c) (supergraph_of c p) r in
    ((λ w. errors.1 (found.0 w)), (λ w. found.1 (errors.0 w)))
