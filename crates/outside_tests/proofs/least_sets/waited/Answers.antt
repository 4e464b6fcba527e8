use Rattle.std.proofs.Common.{◌≡◌, ℕ, refl, get_or}
use Rattle.outside_tests.specs.declared.least_sets.Point.{Point}
use Rattle.outside_tests.specs.declared.least_sets.Call.{Call}
use Rattle.least_set.specs.declared.two_premises.Wait.{Wait}
use Rattle.least_set.specs.Logs.{IsExactly, SomeGives}
use Rattle.least_set.proofs.Growing.{all_of}
use Rattle.least_set.proofs.Enumerating.{exactly_next, exactly_past}
use Rattle.outside_tests.proofs.least_sets.waited.Goals.{then-call-at+in_ok-push, else-call-at}
use Rattle.outside_tests.proofs.least_sets.waited.Goals as goal

pub loop-call-preserved : goal.loop-call-preserved
loop-call-preserved c =
    let xs = c.args.calls.now in
    let i = c.loop-call.call-index in
    let out = c.loop-call.found.items in
    let none : Call = record { at = 0; entry = 0; back = 0 } in
    let x = get_or xs i none in
    elim c.if-call-at.branch [
      | then-call-at+in_ok-push w ↦ rw w.found-is (rw w.in_ok-push.ensures.items (exactly_next (λ k (y : Wait ℕ Point). (k.at ≡ c.args.at.now.node) × (record { on = k.entry; waiter = record { entry = c.args.at.now.entry; node = k.back } } ≡ y)) xs i none out (record { on = x.entry; waiter = record { entry = c.args.at.now.entry; node = x.back } }) c.loop-call-test.true c.loop-call.invariant (w.if-call-at.true, refl) (λ y s. s.1)))
      | else-call-at w ↦ rw w.found-is (exactly_past (λ k (y : Wait ℕ Point). (k.at ≡ c.args.at.now.node) × (record { on = k.entry; waiter = record { entry = c.args.at.now.entry; node = k.back } } ≡ y)) xs i none out c.loop-call-test.true c.loop-call.invariant (λ y s. w.if-call-at.false s.0))
    ]

pub returns : goal.returns
returns c = all_of (λ l. IsExactly c.loop-call.found.items (SomeGives (λ k (y : Wait ℕ Point). (k.at ≡ c.args.at.now.node) × (record { on = k.entry; waiter = record { entry = c.args.at.now.entry; node = k.back } } ≡ y)) l)) c.args.calls.now c.loop-call.call-index c.loop-call-test.false c.loop-call.auto.call-index-end c.loop-call.invariant
