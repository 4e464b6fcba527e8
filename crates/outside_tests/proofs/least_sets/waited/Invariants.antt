use Rattle.std.proofs.Common.{◌≡◌, take}
use Rattle.least_set.specs.Logs.{IsExactly, SomeGives}
use Rattle.outside_tests.proofs.least_sets.waited.Given as goal

-- those that were gone through have given theirs
abbrev pub invariant-loop-call : goal.invariant-loop-call
invariant-loop-call l = IsExactly l.found.items (SomeGives (λ k w. (k.at ≡ l.at.node) × (record { on = k.entry; waiter = record { entry = l.at.entry; node = k.back } } ≡ w)) (take l.call-index l.calls))
