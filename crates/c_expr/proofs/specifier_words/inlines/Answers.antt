use Rattle.std.proofs.Common.{◌∙◌, sym, ap, ◌||◌, drop, ◌+◌, arith}
use Rattle.c_tree.specs.Forget.{view_all}
use Rattle.c_grammar.specs.Specifiers.{inlines}
use Rattle.c_expr.proofs.SpecifierWords.{inlines-next, inlines-end}
use Rattle.c_expr.proofs.specifier_words.inlines.Goals as goal

pub returns-then-is_inline : goal.returns-then-is_inline
returns-then-is_inline c =
    let e = inlines-next c.args.items.now c.loop-item.item-index _ _ (omega arith) c.is_inline.ensures in
    sym (e ∙ ap (λ b. b || inlines (view_all (drop (c.loop-item.item-index + 1) c.args.items.now))) c.if-is_inline.true) ∙ c.loop-item.invariant

pub loop-item-preserved : goal.loop-item-preserved
loop-item-preserved c =
    let e = inlines-next c.args.items.now c.loop-item.item-index _ _ (omega arith) c.is_inline.ensures in
    sym (e ∙ ap (λ b. b || inlines (view_all (drop (c.loop-item.item-index + 1) c.args.items.now))) c.if-is_inline.false) ∙ c.loop-item.invariant

pub returns : goal.returns
returns c = sym (inlines-end c.args.items.now c.loop-item.item-index (omega arith)) ∙ c.loop-item.invariant
