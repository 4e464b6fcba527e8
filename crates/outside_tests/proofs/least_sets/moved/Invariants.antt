use Rattle.std.proofs.Common.{◌≡◌, take}
use Rattle.least_set.specs.Logs.{IsExactly, SomeGives}
use Rattle.outside_tests.proofs.least_sets.moved.Given as goal

-- those that were gone through have given theirs
abbrev pub invariant-loop-edge : goal.invariant-loop-edge
invariant-loop-edge l = IsExactly l.found.items (SomeGives (λ e c. (e.0 ≡ l.at.node) × (record { entry = l.at.entry; node = e.1 } ≡ c)) (take l.edge-index l.edges))
