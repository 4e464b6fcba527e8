use Rattle.std.proofs.Common.{◌∙◌, arith, Contains, sym, subst, inl, inr}
use Rattle.least_set.specs.Logs.{Adds, IsExactly, IsOnce}
use Rattle.least_set.proofs.Growing.{either, nothing}
use Rattle.row_flows.proofs.Lists.{few_once}
use Rattle.row_flows.proofs.crossing.distinct.Goals as goal

pub returns-then-len-le1-clause-exactly : goal.returns-then-len-le1-clause-exactly
returns-then-len-le1-clause-exactly c = (λ u m. m, λ u m. m)

pub returns-then-len-le1-clause-once : goal.returns-then-len-le1-clause-once
returns-then-len-le1-clause-once c =
    let few = c.if-len-le1.true in
    let same = c.len.ensures in
    few_once c.args.tuples.items (omega (arith, few, same))

pub returns-clause-exactly : goal.returns-clause-exactly
returns-clause-exactly c =
    let adds = subst (λ l. Adds (Contains c.args.tuples.items) l c.add_all.new.set.keys) c.new-set.ensures.empty c.in_ok-add_all.ensures in
    let same = c.in_ok-list.ensures.items_if_clones_equal (λ x y h. h) ∙ c.items.ensures.keys in
    subst (λ l. IsExactly l (Contains c.args.tuples.items)) (sym same) (λ u m. elim (either adds u m) [ inl o ↦ absurd (nothing u o) | inr p ↦ p ], adds.added)

pub returns-clause-once : goal.returns-clause-once
returns-clause-once c = subst IsOnce (sym (c.in_ok-list.ensures.items_if_clones_equal (λ x y h. h))) c.items.ensures.once
