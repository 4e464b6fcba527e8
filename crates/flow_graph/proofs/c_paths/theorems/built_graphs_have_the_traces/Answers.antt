use Rattle.flow_graph.proofs.CPaths.BuiltGraphs.{built_traces}
use Rattle.flow_graph.proofs.c_paths.theorems.built_graphs_have_the_traces.Goals as goal

pub returns : goal.returns
returns c F d l = built_traces F d l
