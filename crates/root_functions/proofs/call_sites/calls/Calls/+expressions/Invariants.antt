use Rattle.std.proofs.Common.{◌≡◌, ◌+◌, ◌*◌, max, drop}
use Rattle.c_tree.specs.declared.tree.Tree.{size-Tree}
use Rattle.c_tree.specs.declared.tree.Trees.{size-Trees}
use Rattle.c_tree.specs.declared.expression.Primary.{size-Primary}
use Rattle.c_tree.specs.declared.expression.Operation.{size-Operation}
use Rattle.c_tree.specs.declared.declaration.Initializer.{size-Initializer}
use Rattle.c_tree.specs.Views.{nodes_of, nodes_in}
use Rattle.root_functions.specs.CallSites.Calls.{nodes_at, with_all}
use Rattle.root_functions.proofs.call_sites.calls.Calls.+expressions.Given as goal

-- those of the trees that are left, behind those so far, are all
abbrev pub invariant-all-loop-tree : goal.invariant-all-loop-tree
invariant-all-loop-tree l = with_all (nodes_at l.self.found.items) (nodes_in (drop l.tree-index l.tree-items)) ≡ with_all (nodes_at l.fn.self.found.items) (nodes_of l.trees)

abbrev pub decreases-expression : goal.decreases-expression
decreases-expression l = 3 * size-Tree l.tree.now

abbrev pub decreases-primary : goal.decreases-primary
decreases-primary l = 3 * size-Primary l.kind.now

abbrev pub decreases-operation : goal.decreases-operation
decreases-operation l = 3 * size-Operation l.kind.now

abbrev pub decreases-call : goal.decreases-call
decreases-call l = max (3 * size-Tree l.callee.now) (3 * size-Trees l.arguments.now) + 1

abbrev pub decreases-unary : goal.decreases-unary
decreases-unary l = 3 * size-Tree l.operand.now + 1

abbrev pub decreases-both : goal.decreases-both
decreases-both l = max (3 * size-Tree l.left.now) (3 * size-Tree l.right.now) + 1

abbrev pub decreases-choice : goal.decreases-choice
decreases-choice l = max (3 * size-Tree l.condition.now) (max (3 * size-Tree l.then.now) (3 * size-Tree l.otherwise.now)) + 1

abbrev pub decreases-initializer : goal.decreases-initializer
decreases-initializer l = 3 * size-Initializer l.kind.now

abbrev pub decreases-all : goal.decreases-all
decreases-all l = 3 * size-Trees l.trees.now
