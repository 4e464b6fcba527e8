use Rattle.std.proofs.Math.Logic.{∥∥₁_map}
use Rattle.command.specs.CheckerReports.Checkers.{checkers_in}
use Rattle.path_model.specs.CheckerModel.Checkers.{model}
use Rattle.path_theory.specs.Actions.{fold}
use Rattle.event_places.proofs.Errors.{error-there}
use Rattle.event_places.proofs.Files.{texts-stand}
use Rattle.one_answer.proofs.Listed.{listed-there}
use Rattle.one_answer.proofs.theorems.no_error_is_left_out.Goals as goal

pub returns : goal.returns
returns c checkers sources contents depth reports judged checker among root l h w o t pieces e a =
    let m = judged.meanings in
    let stand = texts-stand m.between judged.names sources m.source_contents judged.texts m.texts_are in
    let x = error-there checker judged.texts stand.0 root l h w o t pieces e a in
    ∥∥₁_map judged.reports_are (λ are. listed-there (checkers_in judged.machines depth judged.names) judged.texts reports are checker among (fold (model checker) root l).top.fn h o t pieces x)
