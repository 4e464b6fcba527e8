use Rattle.std.proofs.Common.{◌≡◌, ℕ, ◌+◌, ◌*◌, drop, Option, None, Some}
use Rattle.std.specs.Borrow.{Bor}
use Rattle.c_tree.specs.declared.tree.Tree.{Tree, size-Tree}
use Rattle.c_tree.specs.Views.{nodes_of, nodes_in}
use Rattle.flow_graph.specs.CPaths.Listing.{has_default_in}
use Rattle.flow_graph.specs.CPaths.TreeFlow.{flows_of}
use Rattle.flow_graph.specs.Defaults.{silent, nowhere}
use Rattle.flow_graph.proofs.switches.+defaults.Given as goal

-- the statements from here on have a default if all have one
abbrev pub invariant-in_some-loop-tree : goal.invariant-in_some-loop-tree
invariant-in_some-loop-tree l = has_default_in (flows_of silent nowhere (nodes_in (drop l.tree-index l.tree-items))) ≡ has_default_in (flows_of silent nowhere (nodes_of l.trees))

abbrev maybe_size : Option (Bor Tree) → ℕ
maybe_size None = 0
maybe_size (Some t) = 2 * size-Tree t.now + 1

abbrev pub decreases-has_default : goal.decreases-has_default
decreases-has_default l = 2 * goal.size-has_default l

abbrev pub decreases-in_statement : goal.decreases-in_statement
decreases-in_statement l = 2 * goal.size-in_statement l

abbrev pub decreases-in_iteration : goal.decreases-in_iteration
decreases-in_iteration l = 2 * goal.size-in_iteration l

abbrev pub decreases-in_optional : goal.decreases-in_optional
decreases-in_optional l = maybe_size l.tree

abbrev pub decreases-in_some : goal.decreases-in_some
decreases-in_some l = 2 * goal.size-in_some l
