use Rattle.path_model.proofs.CheckerPrograms.Closed.{followed-closed}
use Rattle.path_model.proofs.checker_programs.theorems.followed_objects_are_closed.Goals as goal

pub returns : goal.returns
returns c = followed-closed
