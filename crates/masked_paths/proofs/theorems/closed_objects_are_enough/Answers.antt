use Rattle.path_theory.specs.Numbered.{model, origins_of, supergraph_of, objects_of}
use Rattle.path_theory.proofs.NumberedLaws.{numbered_local}
use Rattle.masked_paths.proofs.ClosedFamilies.{enough_of_closed}
use Rattle.masked_paths.proofs.theorems.closed_objects_are_enough.Goals as goal

pub returns : goal.returns
returns k c p a closed = enough_of_closed (model c) (supergraph_of c p) (origins_of c) (numbered_local c) (objects_of c a) closed
