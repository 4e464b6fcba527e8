use Rattle.flow_graph.proofs.CPaths.JoinedBlocks.{same_traces}
use Rattle.flow_graph.proofs.c_paths.theorems.joined_blocks_keep_the_traces.Goals as goal

pub returns : goal.returns
returns c g b d es fs end at_b at_d entry l = same_traces g b d es fs end at_b at_d entry l
