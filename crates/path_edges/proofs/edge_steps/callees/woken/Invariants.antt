use Rattle.std.proofs.Common.{◌≡◌, map, take}
use Rattle.path_edges.specs.EdgeSteps.Steps.{woken_edge}
use Rattle.path_edges.proofs.edge_steps.callees.woken.Given as goal

-- those that were gone through have given theirs
abbrev pub invariant-loop-tuple : goal.invariant-loop-tuple
invariant-loop-tuple l = l.edges.items ≡ map (woken_edge l.waiter) (take l.tuple-index l.tuples)
