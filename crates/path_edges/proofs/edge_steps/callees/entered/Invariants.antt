use Rattle.std.proofs.Common.{◌≡◌, map, take, false}
use Rattle.path_edges.specs.EdgeSteps.Steps.{frame_edge}
use Rattle.path_edges.proofs.edge_steps.callees.entered.Given as goal

-- those that were gone through have given theirs
abbrev pub invariant-loop-entry : goal.invariant-loop-entry
invariant-loop-entry l = l.edges.items ≡ map (frame_edge false l.function l.block) (take l.entry-index l.entries)
