use Rattle.path_theory.specs.Numbered.{model, origins_of, supergraph_of}
use Rattle.path_theory.proofs.NumberedLaws.{numbered_local}
use Rattle.path_theory.proofs.FlatPaths.{in_errors}
use Rattle.masked_paths.specs.Theorems.{mask_of, masked_model, masked_supergraph_of}
use Rattle.masked_paths.proofs.SamePaths.{masked_path, unmasked_path}
use Rattle.masked_paths.proofs.SameReports.{same_reports, same_lengths}
use Rattle.masked_paths.proofs.theorems.masks_change_no_report.Goals as goal

pub returns-clause-states : goal.returns-clause-states
returns-clause-states k c p a loose enough = record {
  masks = λ f is_root place below path. masked_path (model c) (origins_of c) (numbered_local c) (mask_of c a loose) (supergraph_of c p) enough path;
  unmasks = λ f is_root place below path. unmasked_path (model c) (origins_of c) (numbered_local c) (mask_of c a loose) (supergraph_of c p) enough path;
}

pub returns-clause-reports : goal.returns-clause-reports
returns-clause-reports k c p a loose enough r =
    let x = in_errors (masked_model c a loose) (masked_supergraph_of c a loose p) r in
    let y = same_reports (model c) (origins_of c) (numbered_local c) (mask_of c a loose) (supergraph_of c p) enough r in
    let z = in_errors (model c) (supergraph_of c p) r in ((λ w. z.1 (y.0 (x.0 w))), (λ w. x.1 (y.1 (z.0 w))))

pub returns-clause-lengths : goal.returns-clause-lengths
returns-clause-lengths k c p a loose enough = same_lengths (model c) (origins_of c) (numbered_local c) (mask_of c a loose) (supergraph_of c p) enough
