use Rattle.std.proofs.Common.{ap, sym, ◌∙◌}
use Rattle.c_tree.specs.Views.{nodes_in}
use Rattle.c_tree.proofs.Rows.{before-step, before-end, nodes_roll}
use Rattle.tree_laws.proofs.tree_copies.copies.+copy.Goals as goal

pub copy_list-loop-tree-preserved : goal.copy_list-loop-tree-preserved
copy_list-loop-tree-preserved t c = rw c.in_ok-push.ensures.items (before-step _ _ _ _ _ c.loop-tree-test.true c.in_ok-copy.ensures ∙ c.loop-tree.invariant)

pub copy_list-returns : goal.copy_list-returns
copy_list-returns t c = nodes_roll _ ∙ ap nodes_in c.into_bump_slice.ensures ∙ sym (before-end _ _ _ c.loop-tree-test.false) ∙ c.loop-tree.invariant
