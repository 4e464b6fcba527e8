use Rattle.std.proofs.Common.{◌≡◌, take}
use Rattle.least_set.specs.Logs.{IsExactly, SomeGives}
use Rattle.outside_tests.proofs.least_sets.called.Given as goal

-- those that were gone through have given theirs
abbrev pub invariant-loop-call : goal.invariant-loop-call
invariant-loop-call l = IsExactly l.found.items (SomeGives (λ k c. (k.at ≡ l.node) × (record { entry = k.entry; node = k.entry } ≡ c)) (take l.call-index l.calls))
