use Rattle.std.proofs.Common.{◌≡◌, map, take}
use Rattle.flow_graph.specs.KeptBlocks.{renumbered}
use Rattle.flow_graph.specs.Seen.{graph_in}
use Rattle.flow_graph.specs.Targets.{target_of}
use Rattle.flow_graph.specs.Values.{blocks_of}
use Rattle.flow_graph.proofs.kept_blocks.renumber_all.Given as goal

-- those before this one
abbrev pub invariant-loop-number : goal.invariant-loop-number
invariant-loop-number l = blocks_of l.blocks.items ≡ map (renumbered (target_of l.numbers) (graph_in l.graph).blocks) (take l.number-index l.kept)
