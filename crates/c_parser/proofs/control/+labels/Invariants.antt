use Rattle.std.proofs.Common.{◌≡◌, ℕ, ◌+◌, ◌*◌, drop, Option, None, Some}
use Rattle.std.specs.Borrow.{Bor}
use Rattle.c_tree.specs.declared.tree.Tree.{Tree, size-Tree}
use Rattle.c_tree.specs.Forget.{list_view, view_all}
use Rattle.c_grammar.specs.UnitGrammar.Control.{all_labels}
use Rattle.c_parser.specs.Ways.Gathered.{gathered}
use Rattle.c_parser.proofs.control.+labels.Given as goal

abbrev pub invariant-add_labels_of_all-loop-tree : goal.invariant-add_labels_of_all-loop-tree
invariant-add_labels_of_all-loop-tree l = gathered l.known (all_labels (view_all (drop l.tree-index l.tree-items))) ≡ gathered l.fn.known (all_labels (list_view l.trees))

abbrev maybe_size : Option (Bor Tree) → ℕ
maybe_size None = 0
maybe_size (Some t) = 2 * size-Tree t.now + 1

abbrev pub decreases-add_labels : goal.decreases-add_labels
decreases-add_labels l = 2 * goal.size-add_labels l

abbrev pub decreases-add_labels_of_statement : goal.decreases-add_labels_of_statement
decreases-add_labels_of_statement l = 2 * goal.size-add_labels_of_statement l

abbrev pub decreases-add_labels_of_iteration : goal.decreases-add_labels_of_iteration
decreases-add_labels_of_iteration l = 2 * goal.size-add_labels_of_iteration l

abbrev pub decreases-add_labels_of_optional : goal.decreases-add_labels_of_optional
decreases-add_labels_of_optional l = maybe_size l.tree

abbrev pub decreases-add_labels_of_all : goal.decreases-add_labels_of_all
decreases-add_labels_of_all l = 2 * goal.size-add_labels_of_all l
