use Rattle.path_model.proofs.CheckerPrograms.Closed.{closed}
use Rattle.path_model.proofs.checker_programs.theorems.relevant_objects_are_closed.Goals as goal

pub returns : goal.returns
returns c = closed
