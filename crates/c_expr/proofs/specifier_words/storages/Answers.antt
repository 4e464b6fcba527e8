use Rattle.std.proofs.Common.{◌∙◌, arith}
use Rattle.c_expr.proofs.SpecifierWords.{storages-next, storages-end}
use Rattle.c_expr.proofs.specifier_words.storages.Goals as goal

pub loop-item-preserved : goal.loop-item-preserved
loop-item-preserved c =
    storages-next c.args.items.now c.loop-item.item-index _ _ _ _ _ (omega arith) c.in_ok-add.ensures c.storage_of.ensures c.loop-item.invariant

pub returns : goal.returns
returns c = c.into_bump_slice.ensures ∙ storages-end c.args.items.now c.loop-item.item-index _ _ (omega arith) c.loop-item.invariant
