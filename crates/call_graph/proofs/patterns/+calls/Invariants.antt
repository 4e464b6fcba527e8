use Rattle.std.proofs.Common.{◌≡◌, ℕ, ◌+◌, ◌*◌, drop, Option, None, Some}
use Rattle.std.specs.Borrow.{Bor}
use Rattle.c_tree.specs.declared.tree.Tree.{Tree, size-Tree}
use Rattle.c_tree.specs.Views.{nodes_of, nodes_in}
use Rattle.c_tree.specs.Forget.{syntaxes_of}
use Rattle.call_graph.specs.Callees.{any_calls}
use Rattle.call_graph.proofs.patterns.+calls.Given as goal

abbrev pub invariant-any_calls-loop-tree : goal.invariant-any_calls-loop-tree
invariant-any_calls-loop-tree l = any_calls l.name (syntaxes_of (nodes_in (drop l.tree-index l.tree-items))) ≡ any_calls l.name (syntaxes_of (nodes_of l.trees))

abbrev maybe_size : Option (Bor Tree) → ℕ
maybe_size None = 0
maybe_size (Some t) = 2 * size-Tree t.now + 1

abbrev pub decreases-calls : goal.decreases-calls
decreases-calls l = 2 * goal.size-calls l

abbrev pub decreases-calls_in_primary : goal.decreases-calls_in_primary
decreases-calls_in_primary l = 2 * goal.size-calls_in_primary l

abbrev pub decreases-calls_in_operation : goal.decreases-calls_in_operation
decreases-calls_in_operation l = 2 * goal.size-calls_in_operation l

abbrev pub decreases-calls_in_initializer : goal.decreases-calls_in_initializer
decreases-calls_in_initializer l = 2 * goal.size-calls_in_initializer l

abbrev pub decreases-calls_in_specifier : goal.decreases-calls_in_specifier
decreases-calls_in_specifier l = 2 * goal.size-calls_in_specifier l

abbrev pub decreases-calls_in_declarator : goal.decreases-calls_in_declarator
decreases-calls_in_declarator l = 2 * goal.size-calls_in_declarator l

abbrev pub decreases-calls_in_part : goal.decreases-calls_in_part
decreases-calls_in_part l = 2 * goal.size-calls_in_part l

abbrev pub decreases-calls_maybe : goal.decreases-calls_maybe
decreases-calls_maybe l = maybe_size l.tree

abbrev pub decreases-any_calls : goal.decreases-any_calls
decreases-any_calls l = 2 * goal.size-any_calls l
