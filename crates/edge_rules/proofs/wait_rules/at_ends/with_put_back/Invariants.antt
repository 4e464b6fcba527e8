use Rattle.std.proofs.Common.{◌≡◌, take, None}
use Rattle.path_edges.specs.EdgeSteps.Steps.{put_back, woken_edge}
use Rattle.least_set.specs.Logs.{IsExactly, SomeGives}
use Rattle.edge_rules.proofs.wait_rules.at_ends.with_put_back.Given as goal

-- those of the tuples that were gone through
abbrev pub invariant-loop-tuple : goal.invariant-loop-tuple
invariant-loop-tuple l = IsExactly l.edges.items (SomeGives (λ t d. (t.object ≡ None) × (woken_edge l.waiter (put_back t l.object l.state) ≡ d)) (take l.tuple-index l.tuples))
