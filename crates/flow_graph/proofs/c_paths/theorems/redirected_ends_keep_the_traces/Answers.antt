use Rattle.flow_graph.proofs.CPaths.ForwardedWalks.{redirected_traces}
use Rattle.flow_graph.proofs.c_paths.theorems.redirected_ends_keep_the_traces.Goals as goal

pub returns : goal.returns
returns c g f comes entry l = redirected_traces g f comes entry (f entry) (comes entry) l
