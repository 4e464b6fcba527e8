use Rattle.std.proofs.Common.{subst, sym, [], inl, inr}
use Rattle.least_set.specs.Logs.{Adds, SomeGives}
use Rattle.least_set.proofs.Growing.{nothing, either, adds_nothing, adds_next, adds_exactly, all_of}
use Rattle.block_flows.specs.TupleFlows.Behind.{IsBehind}
use Rattle.block_flows.proofs.fronts.next.Goals as goal

pub loop-tuple-init : goal.loop-tuple-init
loop-tuple-init c = λ k h f a are.
    let G = IsBehind k h f c.args.is_root c.args.followed.now.keys in
    subst (λ l. Adds (SomeGives G []) [] l) (sym c.new-set.ensures.empty) (adds_nothing G [])

pub loop-tuple-preserved : goal.loop-tuple-preserved
loop-tuple-preserved c = λ k h f a are.
    let G = IsBehind k h f c.args.is_root c.args.followed.now.keys in
    let old = c.loop-tuple.set.keys in
    let new = c.add_all.new.set.keys in
    let d = c.tuple-item.result in
    let step = adds_exactly c.in_ok-behind.behind.items c.in_ok-add_all.ensures (c.in_ok-behind.ensures k h f a are) in
    adds_next G c.args.tuples.now c.loop-tuple.tuple-index d c.loop-tuple-test.true (c.loop-tuple.invariant k h f a are) (subst (λ w. Adds (G w) old new) c.tuple-item.is step)

pub returns : goal.returns
returns c = λ k h f a are.
    let G = IsBehind k h f c.args.is_root c.args.followed.now.keys in
    let adds = all_of (λ l. Adds (SomeGives G l) [] c.loop-tuple.set.keys) c.args.tuples.now c.loop-tuple.tuple-index c.loop-tuple-test.false c.loop-tuple.auto.tuple-index-end
    (c.loop-tuple.invariant k h f a are) in
    (λ y m. elim (either adds y m) [ inl o ↦ absurd (nothing y o) | inr p ↦ p ], adds.added)
