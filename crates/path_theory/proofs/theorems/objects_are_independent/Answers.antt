use Rattle.path_theory.specs.Numbered.{model, origins_of, supergraph_of}
use Rattle.path_theory.proofs.NumberedLaws.{numbered_local}
use Rattle.path_theory.proofs.Independence.{independent}
use Rattle.path_theory.proofs.theorems.objects_are_independent.Goals as goal

pub returns : goal.returns
returns k c p f place run is_root global m n o same = independent (model c) (supergraph_of c p) (origins_of c) (numbered_local c) run is_root global m n o same
