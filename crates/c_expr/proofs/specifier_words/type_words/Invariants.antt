use Rattle.std.proofs.Common.{◌≡◌, ◌++◌, drop}
use Rattle.c_tree.specs.Forget.{view_all}
use Rattle.c_grammar.specs.Specifiers.{type_words}
use Rattle.c_expr.proofs.specifier_words.type_words.Given as goal

abbrev pub invariant-loop-item : goal.invariant-loop-item
invariant-loop-item l = l.words.items ++ type_words (view_all (drop l.item-index l.items)) ≡ type_words (view_all l.items)
