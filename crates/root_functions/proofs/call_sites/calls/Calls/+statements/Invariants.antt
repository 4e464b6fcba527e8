use Rattle.std.proofs.Common.{◌≡◌, ℕ, ◌+◌, ◌*◌, drop, Option, None, Some}
use Rattle.std.specs.Borrow.{Bor}
use Rattle.c_tree.specs.declared.tree.Tree.{Tree, size-Tree}
use Rattle.c_tree.specs.declared.tree.Trees.{size-Trees}
use Rattle.c_tree.specs.declared.statement.Statement.{size-Statement}
use Rattle.c_tree.specs.declared.statement.Iteration.{size-Iteration}
use Rattle.c_tree.specs.Views.{nodes_of, nodes_in}
use Rattle.root_functions.specs.CallSites.Calls.{nodes_at, with_items}
use Rattle.root_functions.proofs.call_sites.calls.Calls.+statements.Given as goal

-- those of the statements that are left, behind those so far, are all
abbrev pub invariant-items-loop-tree : goal.invariant-items-loop-tree
invariant-items-loop-tree g l = with_items (g.F.Facts.known l.facts) (nodes_at l.self.found.items) (nodes_in (drop l.tree-index l.tree-items)) ≡ with_items (g.F.Facts.known l.facts) (nodes_at l.fn.self.found.items) (nodes_of l.trees)

abbrev maybe_size : Option (Bor Tree) → ℕ
maybe_size None = 0
maybe_size (Some t) = 3 * size-Tree t.now + 1

abbrev pub decreases-statement : goal.decreases-statement
decreases-statement g l = 3 * size-Tree l.tree.now

abbrev pub decreases-plain_statement : goal.decreases-plain_statement
decreases-plain_statement g l = 3 * size-Statement l.kind.now

abbrev pub decreases-after : goal.decreases-after
decreases-after g l = 3 * size-Tree l.body.now + 1

abbrev pub decreases-else_part : goal.decreases-else_part
decreases-else_part g l = maybe_size l.tree

abbrev pub decreases-items : goal.decreases-items
decreases-items g l = 3 * size-Trees l.trees.now

abbrev pub decreases-iteration : goal.decreases-iteration
decreases-iteration g l = 3 * size-Iteration l.kind.now

abbrev pub decreases-turn : goal.decreases-turn
decreases-turn g l = 3 * size-Tree l.body.now + 1
