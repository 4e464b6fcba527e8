use Rattle.path_model.proofs.CheckerGraphs.Units.{apart-texts}
use Rattle.path_model.proofs.checker_graphs.theorems.functions_stand_apart.Goals as goal

pub returns : goal.returns
returns c = apart-texts
