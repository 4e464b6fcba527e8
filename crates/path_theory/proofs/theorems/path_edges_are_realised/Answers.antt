use Rattle.path_theory.specs.Numbered.{model, origins_of, supergraph_of, objects_of}
use Rattle.path_theory.proofs.NumberedLaws.{numbered_local}
use Rattle.path_theory.proofs.Entries.{entries}
use Rattle.path_theory.proofs.theorems.path_edges_are_realised.Goals as goal

pub returns : goal.returns
returns k c p a closed = entries (model c) (supergraph_of c p) (origins_of c) (numbered_local c) (objects_of c a) closed
