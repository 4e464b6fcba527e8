use Rattle.std.proofs.Common.{◌≡◌, ◌++◌, map, take}
use Rattle.path_edges.specs.EdgeSteps.Steps.{edge_at}
use Rattle.path_edges.proofs.edge_steps.next_blocks.add_edges.Given as goal

-- those of the tuples that were gone through stand behind what was there
abbrev pub invariant-loop-tuple : goal.invariant-loop-tuple
invariant-loop-tuple l = l.edges.items ≡ l.initial.edges.items ++ map (edge_at l.edge l.block) (take l.tuple-index l.tuples)
