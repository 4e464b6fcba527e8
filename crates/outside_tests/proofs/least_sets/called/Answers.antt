use Rattle.std.proofs.Common.{◌≡◌, refl, get_or}
use Rattle.outside_tests.specs.declared.least_sets.Point.{Point}
use Rattle.outside_tests.specs.declared.least_sets.Call.{Call}
use Rattle.least_set.specs.Logs.{IsExactly, SomeGives}
use Rattle.least_set.proofs.Growing.{all_of}
use Rattle.least_set.proofs.Enumerating.{exactly_next, exactly_past}
use Rattle.outside_tests.proofs.least_sets.called.Goals.{then-call-node+in_ok-push, else-call-node}
use Rattle.outside_tests.proofs.least_sets.called.Goals as goal

pub loop-call-preserved : goal.loop-call-preserved
loop-call-preserved c =
    let xs = c.args.calls.now in
    let i = c.loop-call.call-index in
    let out = c.loop-call.found.items in
    let none : Call = record { at = 0; entry = 0; back = 0 } in
    let x = get_or xs i none in
    elim c.if-call-node.branch [
      | then-call-node+in_ok-push w ↦ rw w.found-is (rw w.in_ok-push.ensures.items (exactly_next (λ k (y : Point). (k.at ≡ c.args.node) × (record { entry = k.entry; node = k.entry } ≡ y)) xs i none out (record { entry = x.entry; node = x.entry }) c.loop-call-test.true c.loop-call.invariant (w.if-call-node.true, refl) (λ y s. s.1)))
      | else-call-node w ↦ rw w.found-is (exactly_past (λ k (y : Point). (k.at ≡ c.args.node) × (record { entry = k.entry; node = k.entry } ≡ y)) xs i none out c.loop-call-test.true c.loop-call.invariant (λ y s. w.if-call-node.false s.0))
    ]

pub returns : goal.returns
returns c = all_of (λ l. IsExactly c.loop-call.found.items (SomeGives (λ k (y : Point). (k.at ≡ c.args.node) × (record { entry = k.entry; node = k.entry } ≡ y)) l)) c.args.calls.now c.loop-call.call-index c.loop-call-test.false c.loop-call.auto.call-index-end c.loop-call.invariant
