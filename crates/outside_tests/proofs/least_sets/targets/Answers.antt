use Rattle.std.proofs.Common.{◌≡◌, ℕ, refl, get_or}
use Rattle.least_set.specs.Logs.{IsExactly, SomeGives}
use Rattle.least_set.proofs.Growing.{all_of}
use Rattle.least_set.proofs.Enumerating.{exactly_next, exactly_past}
use Rattle.outside_tests.proofs.least_sets.targets.Goals.{then-edge-from+in_ok-push, else-edge-from}
use Rattle.outside_tests.proofs.least_sets.targets.Goals as goal

pub loop-edge-preserved : goal.loop-edge-preserved
loop-edge-preserved c =
    let xs = c.args.edges.now in
    let i = c.loop-edge.edge-index in
    let out = c.loop-edge.found.items in
    let none : ℕ × ℕ = (0, 0) in
    let x = get_or xs i none in
    elim c.if-edge-from.branch [
      | then-edge-from+in_ok-push w ↦ rw w.found-is (rw w.in_ok-push.ensures.items (exactly_next (λ e y. (e.0 ≡ c.args.from) × (e.1 ≡ y)) xs i none out (x.1) c.loop-edge-test.true c.loop-edge.invariant (w.if-edge-from.true, refl) (λ y s. s.1)))
      | else-edge-from w ↦ rw w.found-is (exactly_past (λ e y. (e.0 ≡ c.args.from) × (e.1 ≡ y)) xs i none out c.loop-edge-test.true c.loop-edge.invariant (λ y s. w.if-edge-from.false s.0))
    ]

pub returns : goal.returns
returns c = all_of (λ l. IsExactly c.loop-edge.found.items (SomeGives (λ e y. (e.0 ≡ c.args.from) × (e.1 ≡ y)) l)) c.args.edges.now c.loop-edge.edge-index c.loop-edge-test.false c.loop-edge.auto.edge-index-end c.loop-edge.invariant
