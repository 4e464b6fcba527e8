use Rattle.std.proofs.Common.{arith}
use Rattle.c_expr.proofs.SpecifierWords.{other_types-next, other_types-end}
use Rattle.c_expr.proofs.specifier_words.other_types.Goals as goal

pub loop-item-preserved : goal.loop-item-preserved
loop-item-preserved c =
    let e = other_types-next c.args.items.now c.loop-item.item-index _ _ (omega arith) c.is_other_type.ensures in
    let one = c.from-count.ensures in
    let counted = c.loop-item.invariant.counted in
    grind arith

pub returns : goal.returns
returns c = let e = other_types-end c.args.items.now c.loop-item.item-index (omega arith) in omega (arith, e, c.loop-item.invariant.counted)
