use Rattle.path_theory.specs.Numbered.{model, origins_of, supergraph_of, block_supergraph_of, objects_of}
use Rattle.path_theory.proofs.NumberedLaws.{numbered_local}
use Rattle.masked_paths.specs.Theorems.{matched_of}
use Rattle.masked_paths.specs.MetTheorems.{met_of, met_in_log, following_none}
use Rattle.masked_paths.proofs.MetObjects.{enough_of_met}
use Rattle.masked_paths.proofs.MetLogs.{log_covers_met}
use Rattle.masked_paths.proofs.met_states.met_objects_are_enough.Goals as goal

pub returns-clause-traces : goal.returns-clause-traces
returns-clause-traces k c p r m a covers_met closed covers =
    enough_of_met (model c) (supergraph_of c p) (origins_of c) (numbered_local c) (met_of c r) covers_met (matched_of c m) closed (objects_of c a) covers

pub returns-clause-edges : goal.returns-clause-edges
returns-clause-edges k c p function numbers log least m a closed covers =
    let s = following_none c p function numbers in
    enough_of_met (model c) (block_supergraph_of c p) (origins_of c) (numbered_local c) (met_in_log s log) (log_covers_met s log least) (matched_of c m) closed (objects_of c a) covers
