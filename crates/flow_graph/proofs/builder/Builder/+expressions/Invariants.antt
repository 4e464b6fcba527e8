use Rattle.std.proofs.Common.{◌≡◌, ℕ, ◌+◌, ◌*◌, ◌≤◌, max, drop, length}
use Rattle.c_tree.specs.declared.tree.Tree.{Tree, size-Tree}
use Rattle.c_tree.specs.declared.tree.Trees.{size-Trees}
use Rattle.c_tree.specs.declared.expression.Primary.{size-Primary}
use Rattle.c_tree.specs.declared.expression.Operation.{size-Operation}
use Rattle.c_tree.specs.declared.declaration.Initializer.{size-Initializer}
use Rattle.c_tree.specs.Views.{nodes_in}
use Rattle.flow_graph.specs.CPaths.Forms.{done}
use Rattle.flow_graph.specs.CPaths.TreeForms.{operands}
use Rattle.flow_graph.specs.CPaths.Building.{row_blocks}
use Rattle.flow_graph.specs.Values.{drafts_of, made}
use Rattle.flow_graph.proofs.builder.Builder.+expressions.Given as goal

-- what was built begins with the trees from here on
abbrev pub invariant-operands-loop-left : goal.invariant-operands-loop-left
invariant-operands-loop-left g l = record {
  within : l.left ≤ length l.all;
  made : made l.self.drafts.items l.first ≡ row_blocks (operands (g.F.Facts.known l.facts) (nodes_in (drop l.left l.all)) done) l.next (drafts_of l.fn.self.drafts.items);
}

abbrev pub decreases-operands-loop-left : goal.decreases-operands-loop-left
decreases-operands-loop-left g l = l.left

abbrev pub decreases-expression : goal.decreases-expression
decreases-expression g l = 5 * size-Tree l.tree.now

abbrev pub decreases-primary : goal.decreases-primary
decreases-primary g l = 5 * size-Primary l.kind.now

abbrev pub decreases-operation : goal.decreases-operation
decreases-operation g l = 5 * size-Operation l.kind.now

abbrev pub decreases-call : goal.decreases-call
decreases-call g l = max (5 * size-Tree l.callee.now) (5 * size-Trees l.arguments.now) + 1

abbrev pub decreases-arrow : goal.decreases-arrow
decreases-arrow g l = 5 * size-Tree l.inner.now + 1

abbrev pub decreases-initializer : goal.decreases-initializer
decreases-initializer g l = 5 * size-Initializer l.kind.now

abbrev pub decreases-operands : goal.decreases-operands
decreases-operands g l = 5 * size-Trees l.trees.now

abbrev pub decreases-with_operand : goal.decreases-with_operand
decreases-with_operand g l = 5 * size-Tree l.inner.now + 1

abbrev pub decreases-with_operands : goal.decreases-with_operands
decreases-with_operands g l = max (5 * size-Tree l.left.now) (5 * size-Tree l.right.now) + 1

abbrev pub decreases-negated : goal.decreases-negated
decreases-negated g l = 5 * size-Tree l.inner.now + 1

abbrev pub decreases-unary : goal.decreases-unary
decreases-unary g l = 5 * size-Tree l.inner.now + 2

abbrev pub decreases-equal_to_zero : goal.decreases-equal_to_zero
decreases-equal_to_zero g l = max (5 * size-Tree l.left.now) (5 * size-Tree l.zero.now) + 2

abbrev pub decreases-unequal_to_zero : goal.decreases-unequal_to_zero
decreases-unequal_to_zero g l = max (5 * size-Tree l.left.now) (5 * size-Tree l.zero.now) + 2

abbrev pub decreases-both : goal.decreases-both
decreases-both g l = max (5 * size-Tree l.left.now) (5 * size-Tree l.right.now) + 1

abbrev pub decreases-any : goal.decreases-any
decreases-any g l = max (5 * size-Tree l.left.now) (5 * size-Tree l.right.now) + 1

abbrev pub decreases-sequence : goal.decreases-sequence
decreases-sequence g l = max (5 * size-Tree l.left.now) (5 * size-Tree l.right.now) + 2

abbrev pub decreases-binary : goal.decreases-binary
decreases-binary g l = max (5 * size-Tree l.left.now) (5 * size-Tree l.right.now) + 3

abbrev pub decreases-choice : goal.decreases-choice
decreases-choice g l = max (5 * size-Tree l.condition.now) (max (5 * size-Tree l.then.now) (5 * size-Tree l.otherwise.now)) + 2

abbrev pub decreases-choose : goal.decreases-choose
decreases-choose g l = max (5 * size-Tree l.condition.now) (max (5 * size-Tree l.then.now) (5 * size-Tree l.otherwise.now)) + 1
