use Rattle.path_model.proofs.CheckerGraphs.GraphTraces.{followed_in_graphs}
use Rattle.path_model.proofs.checker_graphs.theorems.followed_objects_are_closed_in_graphs.Goals as goal

pub returns : goal.returns
returns c k ts gs h = followed_in_graphs ts gs h k
