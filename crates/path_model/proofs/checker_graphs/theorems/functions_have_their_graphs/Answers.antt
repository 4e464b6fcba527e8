use Rattle.path_model.proofs.CheckerGraphs.Numbers.{graph-at, definition-at}
use Rattle.path_model.proofs.checker_graphs.theorems.functions_have_their_graphs.Goals as goal

pub returns : goal.returns
returns c ts a gs n d g e k = (graph-at ts a gs n d g e k, definition-at ts a n d e)
