use Rattle.std.proofs.Common.{◌≡◌, sym, subst, inl, inr, take, get_or, nat_eq, Contains, ℕ}
use Rattle.std.proofs.lemmas.Bool.{eqb-true}
use Rattle.std.proofs.lemmas.List.{take_more}
use Rattle.std.proofs.lemmas.List.Elements.{Contains-push_cases}
use Rattle.least_set.specs.Logs.{Adds}
use Rattle.least_set.proofs.Growing.{adds_one, all_of, kept}
use Rattle.row_flows.proofs.concerned_objects.distinct.Goals as goal

pub loop-number-preserved : goal.loop-number-preserved
loop-number-preserved c = λ n h.
    let xs = c.args.numbers.now in
    let i = c.loop-number.number-index in
    let x = get_or xs i 0 in
    let old = c.loop-number.set.keys in
    let adds = subst (Adds (λ m. x ≡ m) old) (sym c.in_ok-insert.ensures.keys) (adds_one nat_eq eqb-true old x) in
    elim (Contains-push_cases (take i xs) x n (subst (λ l. Contains l n) (take_more xs i 0 c.loop-number-test.true) h)) [
      | inl o ↦ kept adds n (c.loop-number.invariant n o)
      | inr e ↦ adds.added n e
    ]

pub returns : goal.returns
returns c =
    all_of (λ l. (n : ℕ) → Contains l n → Contains c.loop-number.set.keys n) c.args.numbers.now c.loop-number.number-index c.loop-number-test.false c.loop-number.auto.number-index-end c.loop-number.invariant
