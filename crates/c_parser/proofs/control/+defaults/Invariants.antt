use Rattle.std.proofs.Common.{◌≡◌, ℕ, ◌+◌, ◌*◌, ◌≤◌, min, drop, Option, None, Some}
use Rattle.std.specs.Borrow.{Bor}
use Rattle.c_tree.specs.declared.tree.Tree.{Tree, size-Tree}
use Rattle.c_tree.specs.Forget.{list_view, view_all}
use Rattle.c_grammar.specs.UnitGrammar.Control.{all_defaults}
use Rattle.c_parser.proofs.control.+defaults.Given as goal

abbrev pub invariant-defaults_of_all-loop-tree : goal.invariant-defaults_of_all-loop-tree
invariant-defaults_of_all-loop-tree l = record {
  small : l.count ≤ 2;
  counted : min 2 (l.count + all_defaults (view_all (drop l.tree-index l.tree-items))) ≡ min 2 (all_defaults (list_view l.trees));
}

abbrev maybe_size : Option (Bor Tree) → ℕ
maybe_size None = 0
maybe_size (Some t) = 2 * size-Tree t.now + 1

abbrev pub decreases-defaults : goal.decreases-defaults
decreases-defaults l = 2 * goal.size-defaults l

abbrev pub decreases-defaults_of_statement : goal.decreases-defaults_of_statement
decreases-defaults_of_statement l = 2 * goal.size-defaults_of_statement l

abbrev pub decreases-defaults_of_iteration : goal.decreases-defaults_of_iteration
decreases-defaults_of_iteration l = 2 * goal.size-defaults_of_iteration l

abbrev pub decreases-defaults_of_optional : goal.decreases-defaults_of_optional
decreases-defaults_of_optional l = maybe_size l.tree

abbrev pub decreases-defaults_of_all : goal.decreases-defaults_of_all
decreases-defaults_of_all l = 2 * goal.size-defaults_of_all l
