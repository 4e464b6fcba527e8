use Rattle.path_theory.specs.Entries.{IsLeastLog, Least, OfBase, OfStep}
use Rattle.path_theory.proofs.Engine.{engine_reports}
use Rattle.path_theory.proofs.FlatPaths.{in_errors}
use Rattle.path_examples.specs.Checker.{locks, lock_origins}
use Rattle.path_examples.specs.Program.{graphs, program, followed}
use Rattle.path_examples.proofs.Laws.{local, exits, apart}
use Rattle.path_examples.proofs.Followed.{closed}
use Rattle.path_examples.proofs.log.log_is_exact.Goals as goal

pub returns : goal.returns
returns c kinds r =
    let least : IsLeastLog locks lock_origins followed graphs kinds (Least locks lock_origins followed graphs kinds) = record { base = λ e b. OfBase b; closed = λ a b e x y s. OfStep x y s; only = λ e x. x } in
    let shown = engine_reports locks lock_origins followed graphs kinds exits apart local closed (Least locks lock_origins followed graphs kinds) least r in
    let errors = in_errors locks program r in
    ((λ w. errors.1 (shown.0 w)), (λ w. shown.1 (errors.0 w)))
