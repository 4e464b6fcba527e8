use Rattle.path_theory.specs.Numbered.{model, origins_of, supergraph_of}
use Rattle.path_theory.proofs.NumberedLaws.{numbered_local}
use Rattle.masked_paths.specs.Theorems.{mask_of}
use Rattle.masked_paths.proofs.SameRealised.{same_realised}
use Rattle.masked_paths.proofs.theorems.closed_realises_the_same.Goals as goal

pub returns : goal.returns
returns k c p a loose closed = same_realised (model c) (supergraph_of c p) (origins_of c) (numbered_local c) (mask_of c a loose) closed
