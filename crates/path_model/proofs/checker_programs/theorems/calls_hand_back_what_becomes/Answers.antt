use Rattle.path_model.specs.CheckerPrograms.Texts.{objects_in, site}
use Rattle.path_model.proofs.CheckerModel.HandedBack.{hands-back}
use Rattle.path_model.proofs.CheckerModel.MovedObjects.{actuals-are}
use Rattle.path_model.proofs.checker_programs.theorems.calls_hand_back_what_becomes.Goals as goal

pub returns : goal.returns
returns k = λ c ts f call callee caller. hands-back c.depth (site c.depth ts f call) callee caller (actuals-are (objects_in ts f.place.file) c.depth call)
