use Rattle.std.proofs.Common.{◌≡◌, map, take}
use Rattle.std.specs.Prelude.{flat_map}
use Rattle.path_edges.specs.EdgeSteps.Steps.{edge_at}
use Rattle.path_edges.proofs.edge_steps.next_blocks.onward.Given as goal

-- those of the blocks that were gone through
abbrev pub invariant-loop-block : goal.invariant-loop-block
invariant-loop-block l = l.edges.items ≡ flat_map (λ b. map (edge_at l.edge b) l.tuples) (take l.block-index l.blocks)
