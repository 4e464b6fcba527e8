use Rattle.path_model.proofs.CheckerModel.Laws.{local}
use Rattle.path_model.proofs.checker_model.theorems.one_object_at_a_time.Goals as goal

pub returns : goal.returns
returns c = local
