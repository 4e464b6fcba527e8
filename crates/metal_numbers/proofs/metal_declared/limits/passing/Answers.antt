use Rattle.std.proofs.Common.{ap, sym, subst, arith}
use Rattle.std.proofs.lemmas.Grind.{common_steps}
use Rattle.metal_written.specs.Sizes.{ClauseHasSizes}
use Rattle.metal_written.proofs.InSizes.{total-next}
use Rattle.metal_numbers.proofs.MetalDeclared.Counts.{count_within, limit-low}
use Rattle.metal_numbers.proofs.MetalDeclared.InLimits.{sizes_here}
use Rattle.metal_numbers.proofs.metal_declared.limits.passing.Goals as goal

pub overflow_add-count : goal.overflow_add-count
overflow_add-count c =
    let clauses = c.args.clauses.now in
    let index = c.loop-clause.clause-index in
    let clause = c.clause-item.result in
    let sizes = subst ClauseHasSizes (sym c.clause-item.is) (sizes_here clauses index clause c.loop-clause-test.true c.loop-clause.invariant.sizes) in
    let within = count_within c.args.which clause sizes in
    let total = total-next clauses index clause c.loop-clause-test.true in
    let same = ap (λ x. x.size) c.clause-item.is in
    let low = limit-low c.args.which in
    grind (arith, common_steps)
