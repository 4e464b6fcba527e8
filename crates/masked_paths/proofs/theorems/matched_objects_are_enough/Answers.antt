use Rattle.path_theory.specs.Numbered.{model, origins_of, supergraph_of, graphs_of, objects_of}
use Rattle.path_theory.proofs.NumberedLaws.{numbered_local}
use Rattle.masked_paths.specs.Theorems.{matched_of}
use Rattle.masked_paths.proofs.MatchedObjects.{enough_of_matched}
use Rattle.masked_paths.proofs.MatchedBlocks.{enough_over_blocks}
use Rattle.masked_paths.proofs.theorems.matched_objects_are_enough.Goals as goal

pub returns-clause-traces : goal.returns-clause-traces
returns-clause-traces k c p m a closed covers = enough_of_matched (model c) (supergraph_of c p) (origins_of c) (numbered_local c) (matched_of c m) closed (objects_of c a) covers

pub returns-clause-blocks : goal.returns-clause-blocks
returns-clause-blocks k c p m a closed covers = enough_over_blocks (model c) (graphs_of c p) (origins_of c) (matched_of c m) (numbered_local c) (objects_of c a) closed covers
