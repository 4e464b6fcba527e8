use Rattle.flow_graph.proofs.CPaths.SoundDrafts.{built_graph_sound}
use Rattle.flow_graph.proofs.c_paths.theorems.built_graphs_are_sound.Goals as goal

pub returns : goal.returns
returns c F d = built_graph_sound F d
