use Rattle.path_theory.specs.Numbered.{model, origins_of, supergraph_of, objects_of}
use Rattle.path_theory.proofs.NumberedLaws.{numbered_local}
use Rattle.path_theory.proofs.ReportLengths.{lengths}
use Rattle.path_theory.proofs.theorems.lengths_are_those_of_paths.Goals as goal

pub returns : goal.returns
returns k c p a closed = lengths (model c) (supergraph_of c p) (origins_of c) (numbered_local c) (objects_of c a) closed
