use Rattle.path_model.proofs.CheckerModel.Laws.{quiet}
use Rattle.path_model.proofs.checker_model.theorems.ends_are_quiet.Goals as goal

pub returns : goal.returns
returns c = quiet
