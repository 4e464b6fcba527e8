use Rattle.std.proofs.Common.{◌∙◌, arith}
use Rattle.c_expr.proofs.SpecifierWords.{type_words-next, type_words-end}
use Rattle.c_expr.proofs.specifier_words.type_words.Goals as goal

pub loop-item-preserved : goal.loop-item-preserved
loop-item-preserved c =
    type_words-next c.args.items.now c.loop-item.item-index _ _ _ _ _ (omega arith) c.in_ok-add.ensures c.type_word_of.ensures c.loop-item.invariant

pub returns : goal.returns
returns c = c.into_bump_slice.ensures ∙ type_words-end c.args.items.now c.loop-item.item-index _ _ (omega arith) c.loop-item.invariant
