use Rattle.path_model.proofs.CheckerPrograms.Closed.{followed-relevant}
use Rattle.path_model.proofs.checker_programs.theorems.followed_objects_are_relevant.Goals as goal

pub returns : goal.returns
returns c = followed-relevant
