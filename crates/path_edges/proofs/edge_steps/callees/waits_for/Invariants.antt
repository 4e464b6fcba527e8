use Rattle.std.proofs.Common.{◌≡◌, map, take}
use Rattle.path_edges.specs.EdgeSteps.Steps.{wait_for}
use Rattle.path_edges.proofs.edge_steps.callees.waits_for.Given as goal

-- those that were gone through have given theirs
abbrev pub invariant-loop-entry : goal.invariant-loop-entry
invariant-loop-entry l = l.waits.items ≡ map (wait_for l.edge l.function l.behind) (take l.entry-index l.entries)
