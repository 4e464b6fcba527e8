use Rattle.std.proofs.Common.{◌≡◌, ℕ, ◌+◌, ◌*◌, ◌≤◌, drop, length, Option, None, Some}
use Rattle.std.specs.Borrow.{Bor}
use Rattle.c_tree.specs.declared.tree.Tree.{Tree, size-Tree}
use Rattle.c_tree.specs.declared.tree.Trees.{size-Trees}
use Rattle.c_tree.specs.declared.statement.Statement.{size-Statement}
use Rattle.c_tree.specs.declared.statement.Iteration.{size-Iteration}
use Rattle.c_tree.specs.Views.{nodes_in}
use Rattle.flow_graph.specs.CPaths.TreeFlow.{flows_of}
use Rattle.flow_graph.specs.Values.{drafts_of}
use Rattle.flow_graph.specs.Statements.{IsPlaced, rows_ahead}
use Rattle.flow_graph.proofs.statements.BodyBuilder.+statements.Given as goal

-- what was built begins with the statements from here on
abbrev pub invariant-items-loop-left : goal.invariant-items-loop-left
invariant-items-loop-left g l = record {
  within : l.left ≤ length l.all;
  placed : IsPlaced l.fn.self l.self l.fn.cases.items l.cases.items l.first (rows_ahead (flows_of (g.F.Facts.known l.facts) l.function (nodes_in (drop l.left l.all))) l.ahead (drafts_of l.fn.self.blocks.drafts.items));
}

abbrev pub decreases-items-loop-left : goal.decreases-items-loop-left
decreases-items-loop-left g l = l.left

abbrev maybe_size : Option (Bor Tree) → ℕ
maybe_size None = 0
maybe_size (Some t) = 3 * size-Tree t.now + 1

abbrev pub decreases-statement : goal.decreases-statement
decreases-statement g l = 3 * size-Tree l.tree.now

abbrev pub decreases-plain_statement : goal.decreases-plain_statement
decreases-plain_statement g l = 3 * size-Statement l.kind.now

abbrev pub decreases-maybe_statement : goal.decreases-maybe_statement
decreases-maybe_statement g l = maybe_size l.tree

abbrev pub decreases-items : goal.decreases-items
decreases-items g l = 3 * size-Trees l.trees.now

abbrev pub decreases-switch : goal.decreases-switch
decreases-switch g l = 3 * size-Tree l.body.now + 1

abbrev pub decreases-iteration : goal.decreases-iteration
decreases-iteration g l = 3 * size-Iteration l.kind.now

abbrev pub decreases-turn : goal.decreases-turn
decreases-turn g l = 3 * size-Tree l.body.now + 1

abbrev pub decreases-for_turn : goal.decreases-for_turn
decreases-for_turn g l = 3 * size-Tree l.body.now + 1
