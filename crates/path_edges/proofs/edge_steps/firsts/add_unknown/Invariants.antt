use Rattle.std.proofs.Common.{◌≡◌, ◌++◌, map, take}
use Rattle.path_edges.specs.EdgeSteps.Steps.{first_edge, unknown_at}
use Rattle.path_edges.proofs.edge_steps.firsts.add_unknown.Given as goal

-- those of the objects that were gone through stand behind what was there
abbrev pub invariant-loop-object : goal.invariant-loop-object
invariant-loop-object l = l.edges.items ≡ l.initial.edges.items ++ map (λ o. first_edge l.function l.block (unknown_at o)) (take l.object-index l.objects)
