use Rattle.flow_graph.proofs.CPaths.BuiltTexts.{built_graph_text}
use Rattle.flow_graph.proofs.c_paths.theorems.built_graphs_stand_in_the_text.Goals as goal

pub returns : goal.returns
returns c F d i h = built_graph_text F d i h
