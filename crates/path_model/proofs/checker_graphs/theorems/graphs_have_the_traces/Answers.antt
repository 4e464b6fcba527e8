use Rattle.path_model.proofs.CheckerGraphs.GraphTraces.{graphs_have_traces}
use Rattle.path_model.proofs.checker_graphs.theorems.graphs_have_the_traces.Goals as goal

pub returns : goal.returns
returns c k ts gs h = graphs_have_traces ts gs h k
