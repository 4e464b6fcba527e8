use Rattle.std.proofs.Common.{◌≡◌, ℕ, ◌+◌, ◌*◌, drop, Option, None, Some}
use Rattle.std.specs.Borrow.{Bor}
use Rattle.c_tree.specs.declared.tree.Tree.{Tree, size-Tree}
use Rattle.c_tree.specs.Views.{nodes_of, nodes_in}
use Rattle.c_tree.proofs.Rows.{before}
use Rattle.tree_laws.proofs.tree_copies.copies.+copy.Given as goal

abbrev pub invariant-copy_list-loop-tree : goal.invariant-copy_list-loop-tree
invariant-copy_list-loop-tree l = before l.all.items (nodes_in (drop l.tree-index l.tree-items)) ≡ nodes_of l.trees

abbrev maybe_size : Option (Bor Tree) → ℕ
maybe_size None = 0
maybe_size (Some t) = 3 * size-Tree t.now + 2

abbrev pub decreases-copy_declarator : goal.decreases-copy_declarator
decreases-copy_declarator l = 3 * goal.size-copy_declarator l

abbrev pub decreases-copy_initializer : goal.decreases-copy_initializer
decreases-copy_initializer l = 3 * goal.size-copy_initializer l

abbrev pub decreases-copy_iteration : goal.decreases-copy_iteration
decreases-copy_iteration l = 3 * goal.size-copy_iteration l

abbrev pub decreases-copy_jump : goal.decreases-copy_jump
decreases-copy_jump l = 3 * goal.size-copy_jump l

abbrev pub decreases-copy_kind : goal.decreases-copy_kind
decreases-copy_kind l = 3 * goal.size-copy_kind l

abbrev pub decreases-copy_list : goal.decreases-copy_list
decreases-copy_list l = 3 * goal.size-copy_list l

abbrev pub decreases-copy_node : goal.decreases-copy_node
decreases-copy_node l = 3 * goal.size-copy_node l

abbrev pub decreases-copy_operation : goal.decreases-copy_operation
decreases-copy_operation l = 3 * goal.size-copy_operation l

abbrev pub decreases-copy_optional : goal.decreases-copy_optional
decreases-copy_optional l = maybe_size l.tree

abbrev pub decreases-copy_outer : goal.decreases-copy_outer
decreases-copy_outer l = 3 * goal.size-copy_outer l

abbrev pub decreases-copy_part : goal.decreases-copy_part
decreases-copy_part l = 3 * goal.size-copy_part l

abbrev pub decreases-copy_primary : goal.decreases-copy_primary
decreases-copy_primary l = 3 * goal.size-copy_primary l

abbrev pub decreases-copy_specifier : goal.decreases-copy_specifier
decreases-copy_specifier l = 3 * goal.size-copy_specifier l

abbrev pub decreases-copy_statement : goal.decreases-copy_statement
decreases-copy_statement l = 3 * goal.size-copy_statement l

abbrev pub decreases-copy_tree : goal.decreases-copy_tree
decreases-copy_tree l = 3 * goal.size-copy_tree l + 1
