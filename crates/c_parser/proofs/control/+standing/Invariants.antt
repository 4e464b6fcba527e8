use Rattle.std.proofs.Common.{◌≡◌, ℕ, ◌+◌, ◌*◌, drop, Option, None, Some}
use Rattle.std.specs.Borrow.{Bor}
use Rattle.c_tree.specs.declared.tree.Tree.{Tree, size-Tree}
use Rattle.c_tree.specs.Forget.{list_view, view_all}
use Rattle.c_grammar.specs.UnitGrammar.Control.{all_may_stand}
use Rattle.c_parser.specs.Around.{surroundings}
use Rattle.c_parser.proofs.control.+standing.Given as goal

abbrev pub invariant-all_may_stand-loop-tree : goal.invariant-all_may_stand-loop-tree
invariant-all_may_stand-loop-tree l = all_may_stand (surroundings l.around l.labels) (view_all (drop l.tree-index l.tree-items)) ≡ all_may_stand (surroundings l.around l.labels) (list_view l.trees)

abbrev maybe_size : Option (Bor Tree) → ℕ
maybe_size None = 0
maybe_size (Some t) = 2 * size-Tree t.now + 1

abbrev pub decreases-may_stand : goal.decreases-may_stand
decreases-may_stand l = 2 * goal.size-may_stand l

abbrev pub decreases-statement_may_stand : goal.decreases-statement_may_stand
decreases-statement_may_stand l = 2 * goal.size-statement_may_stand l

abbrev pub decreases-iteration_may_stand : goal.decreases-iteration_may_stand
decreases-iteration_may_stand l = 2 * goal.size-iteration_may_stand l

abbrev pub decreases-optional_may_stand : goal.decreases-optional_may_stand
decreases-optional_may_stand l = maybe_size l.tree

abbrev pub decreases-all_may_stand : goal.decreases-all_may_stand
decreases-all_may_stand l = 2 * goal.size-all_may_stand l
