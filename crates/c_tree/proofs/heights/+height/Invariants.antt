use Rattle.std.proofs.Common.{◌≡◌, ℕ, ◌+◌, ◌*◌, max, drop, Option, None, Some}
use Rattle.std.specs.Borrow.{Bor}
use Rattle.c_tree.specs.declared.tree.Tree.{Tree, size-Tree}
use Rattle.c_tree.specs.Views.{nodes_of, nodes_in}
use Rattle.c_tree.specs.Forget.{syntaxes_of}
use Rattle.c_tree.specs.Height.{height_in}
use Rattle.c_tree.proofs.heights.+height.Given as goal

abbrev pub invariant-highest-loop-tree : goal.invariant-highest-loop-tree
invariant-highest-loop-tree l = max l.most (height_in (syntaxes_of (nodes_in (drop l.tree-index l.tree-items)))) ≡ height_in (syntaxes_of (nodes_of l.trees))

abbrev maybe_size : Option (Bor Tree) → ℕ
maybe_size None = 0
maybe_size (Some t) = 2 * size-Tree t.now + 1

abbrev pub decreases-height : goal.decreases-height
decreases-height l = 2 * goal.size-height l

abbrev pub decreases-height_of_declarator : goal.decreases-height_of_declarator
decreases-height_of_declarator l = 2 * goal.size-height_of_declarator l

abbrev pub decreases-height_of_initializer : goal.decreases-height_of_initializer
decreases-height_of_initializer l = 2 * goal.size-height_of_initializer l

abbrev pub decreases-height_of_iteration : goal.decreases-height_of_iteration
decreases-height_of_iteration l = 2 * goal.size-height_of_iteration l

abbrev pub decreases-height_of_jump : goal.decreases-height_of_jump
decreases-height_of_jump l = 2 * goal.size-height_of_jump l

abbrev pub decreases-height_of_operation : goal.decreases-height_of_operation
decreases-height_of_operation l = 2 * goal.size-height_of_operation l

abbrev pub decreases-height_of_optional : goal.decreases-height_of_optional
decreases-height_of_optional l = maybe_size l.tree

abbrev pub decreases-height_of_outer : goal.decreases-height_of_outer
decreases-height_of_outer l = 2 * goal.size-height_of_outer l

abbrev pub decreases-height_of_part : goal.decreases-height_of_part
decreases-height_of_part l = 2 * goal.size-height_of_part l

abbrev pub decreases-height_of_primary : goal.decreases-height_of_primary
decreases-height_of_primary l = 2 * goal.size-height_of_primary l

abbrev pub decreases-height_of_specifier : goal.decreases-height_of_specifier
decreases-height_of_specifier l = 2 * goal.size-height_of_specifier l

abbrev pub decreases-height_of_statement : goal.decreases-height_of_statement
decreases-height_of_statement l = 2 * goal.size-height_of_statement l

abbrev pub decreases-highest : goal.decreases-highest
decreases-highest l = 2 * goal.size-highest l
