use Rattle.std.proofs.Common.{◌≡◌, ℕ, refl, get_or}
use Rattle.outside_tests.specs.declared.least_sets.Point.{Point}
use Rattle.least_set.specs.Logs.{IsExactly, SomeGives}
use Rattle.least_set.proofs.Growing.{all_of}
use Rattle.least_set.proofs.Enumerating.{exactly_next, exactly_past}
use Rattle.outside_tests.proofs.least_sets.moved.Goals.{then-edge-at+in_ok-push, else-edge-at}
use Rattle.outside_tests.proofs.least_sets.moved.Goals as goal

pub loop-edge-preserved : goal.loop-edge-preserved
loop-edge-preserved c =
    let xs = c.args.edges.now in
    let i = c.loop-edge.edge-index in
    let out = c.loop-edge.found.items in
    let none : ℕ × ℕ = (0, 0) in
    let x = get_or xs i none in
    elim c.if-edge-at.branch [
      | then-edge-at+in_ok-push w ↦ rw w.found-is (rw w.in_ok-push.ensures.items (exactly_next (λ e (y : Point). (e.0 ≡ c.args.at.now.node) × (record { entry = c.args.at.now.entry; node = e.1 } ≡ y)) xs i none out (record { entry = c.args.at.now.entry; node = x.1 }) c.loop-edge-test.true c.loop-edge.invariant (w.if-edge-at.true, refl) (λ y s. s.1)))
      | else-edge-at w ↦ rw w.found-is (exactly_past (λ e (y : Point). (e.0 ≡ c.args.at.now.node) × (record { entry = c.args.at.now.entry; node = e.1 } ≡ y)) xs i none out c.loop-edge-test.true c.loop-edge.invariant (λ y s. w.if-edge-at.false s.0))
    ]

pub returns : goal.returns
returns c = all_of (λ l. IsExactly c.loop-edge.found.items (SomeGives (λ e (y : Point). (e.0 ≡ c.args.at.now.node) × (record { entry = c.args.at.now.entry; node = e.1 } ≡ y)) l)) c.args.edges.now c.loop-edge.edge-index c.loop-edge-test.false c.loop-edge.auto.edge-index-end c.loop-edge.invariant
