use Rattle.path_theory.specs.Numbered.{model, supergraph_of}
use Rattle.path_theory.proofs.FlatPaths.{prefix}
use Rattle.path_theory.proofs.theorems.prefixes_are_paths.Goals as goal

pub returns : goal.returns
returns k c p root l a w = prefix (model c) (supergraph_of c p) root l a w
