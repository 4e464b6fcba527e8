use Rattle.path_theory.specs.FlowGraphs.{supergraph}
use Rattle.path_theory.specs.Numbered.{model, origins_of, graphs_of, objects_of}
use Rattle.path_theory.specs.Theorems.{IsEntry}
use Rattle.path_theory.proofs.FlatPaths.{in_errors}
use Rattle.path_theory.proofs.NumberedLaws.{numbered_local}
use Rattle.path_theory.proofs.Reports.{reports}
use Rattle.path_theory.proofs.Saturated.{given, found_of}
use Rattle.path_theory.proofs.theorems.saturated_entries_are_exact.Goals as goal

pub returns : goal.returns
returns k c p a x exact closed r =
    let found = reports (model c) (supergraph (model c) (graphs_of c p)) (origins_of c) (numbered_local c) (objects_of c a) closed r in
    let errors = in_errors (model c) (supergraph (model c) (graphs_of c p)) r in (
      (λ w. errors.1 (found.0 (found_of (model c) (origins_of c) (objects_of c a) (graphs_of c p) (IsEntry c x) exact.edges r w))),
      (λ w. given (model c) (origins_of c) (objects_of c a) (graphs_of c p) (IsEntry c x) exact.saturated r (found.1 (errors.0 w))),
    )
