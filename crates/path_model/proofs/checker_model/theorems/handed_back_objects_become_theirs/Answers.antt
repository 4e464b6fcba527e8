use Rattle.path_model.proofs.CheckerModel.HandedBack.{handed-back}
use Rattle.path_model.proofs.checker_model.theorems.handed_back_objects_become_theirs.Goals as goal

pub returns : goal.returns
returns k = λ depth s c o are. handed-back depth o s c are
