use Rattle.std.proofs.Common.{◌≡◌, ◌++◌, drop}
use Rattle.c_tree.specs.Forget.{view_all}
use Rattle.c_grammar.specs.Specifiers.{storages}
use Rattle.c_expr.proofs.specifier_words.storages.Given as goal

abbrev pub invariant-loop-item : goal.invariant-loop-item
invariant-loop-item l = l.words.items ++ storages (view_all (drop l.item-index l.items)) ≡ storages (view_all l.items)
