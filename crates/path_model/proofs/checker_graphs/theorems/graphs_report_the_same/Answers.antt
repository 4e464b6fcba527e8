use Rattle.path_model.proofs.CheckerGraphs.GraphTraces.{graphs_report}
use Rattle.path_model.proofs.checker_graphs.theorems.graphs_report_the_same.Goals as goal

pub returns : goal.returns
returns c k ts gs h r = graphs_report ts gs h k r
