use Rattle.std.proofs.Common.{◌≡◌, ◌+◌, ◌≤◌, drop}
use Rattle.c_tree.specs.Forget.{view_all}
use Rattle.c_grammar.specs.Specifiers.{other_types}
use Rattle.c_expr.proofs.specifier_words.other_types.Given as goal

abbrev pub invariant-loop-item : goal.invariant-loop-item
invariant-loop-item l = record {
  counted : l.count + other_types (view_all (drop l.item-index l.items)) ≡ other_types (view_all l.items);
  bound : l.count ≤ l.item-index;
}
