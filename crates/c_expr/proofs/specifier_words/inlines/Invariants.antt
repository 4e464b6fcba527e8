use Rattle.std.proofs.Common.{◌≡◌, drop}
use Rattle.c_tree.specs.Forget.{view_all}
use Rattle.c_grammar.specs.Specifiers.{inlines}
use Rattle.c_expr.proofs.specifier_words.inlines.Given as goal

abbrev pub invariant-loop-item : goal.invariant-loop-item
invariant-loop-item l = inlines (view_all (drop l.item-index l.items)) ≡ inlines (view_all l.items)
