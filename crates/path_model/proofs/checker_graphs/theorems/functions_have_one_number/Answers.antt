use Rattle.path_model.proofs.CheckerGraphs.Numbers.{one-number}
use Rattle.path_model.proofs.checker_graphs.theorems.functions_have_one_number.Goals as goal

pub returns : goal.returns
returns c = one-number
