use Rattle.flow_graph.proofs.CPaths.ListedTraces.{listed_are_traces}
use Rattle.flow_graph.proofs.c_paths.theorems.listed_are_traces.Goals as goal

pub returns : goal.returns
returns c F d n l b = listed_are_traces F d n l b
