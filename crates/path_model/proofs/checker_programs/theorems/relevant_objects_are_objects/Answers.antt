use Rattle.path_model.proofs.CheckerPrograms.Closed.{relevant-object}
use Rattle.path_model.proofs.checker_programs.theorems.relevant_objects_are_objects.Goals as goal

pub returns : goal.returns
returns c = relevant-object
