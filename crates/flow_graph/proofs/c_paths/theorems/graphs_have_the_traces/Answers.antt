use Rattle.flow_graph.proofs.CPaths.StatementWalks.{graph_traces}
use Rattle.flow_graph.proofs.c_paths.theorems.graphs_have_the_traces.Goals as goal

pub returns : goal.returns
returns c g body exit entry is l = graph_traces g body exit entry is l
