use Rattle.path_theory.specs.Numbered.{model, origins_of, graphs_of, block_supergraph_of}
use Rattle.path_theory.proofs.NumberedLaws.{numbered_local}
use Rattle.path_theory.proofs.FlatPaths.{in_errors}
use Rattle.masked_paths.specs.Theorems.{mask_of}
use Rattle.masked_paths.proofs.MaskedEngine.{masked_found}
use Rattle.masked_paths.proofs.MaskedLengths.{masked_lengths}
use Rattle.masked_paths.proofs.theorems.masked_edges_report.Goals as goal

pub returns-clause-reports : goal.returns-clause-reports
returns-clause-reports k c p a loose enough r =
    let x = masked_found (model c) (origins_of c) (numbered_local c) (mask_of c a loose) (graphs_of c p) enough r in
    let y = in_errors (model c) (block_supergraph_of c p) r in ((λ w. y.1 (x.0 w)), (λ w. x.1 (y.0 w)))

pub returns-clause-lengths : goal.returns-clause-lengths
returns-clause-lengths k c p a loose enough = masked_lengths (model c) (origins_of c) (mask_of c a loose) (graphs_of c p) (numbered_local c) enough
