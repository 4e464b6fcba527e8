use Rattle.flow_graph.proofs.CPaths.ListedTraces.{finished_lists_are_all}
use Rattle.flow_graph.proofs.c_paths.theorems.finished_lists_are_all.Goals as goal

pub returns : goal.returns
returns c F d n t l = finished_lists_are_all F d n t l
