use Rattle.std.proofs.Common.{◌+◌, ◌*◌}
use Rattle.c_tree.specs.declared.expression.Primary.{size-Primary}
use Rattle.c_tree.specs.declared.tree.Tree.{size-Tree}
use Rattle.tree_comparison.proofs.tree_levels.levels.+level.Given as goal

abbrev pub decreases-tree_level : goal.decreases-tree_level
decreases-tree_level l = 8 * size-Tree l.tree.now + 1

abbrev pub decreases-primary_level : goal.decreases-primary_level
decreases-primary_level l = 8 * size-Primary l.kind.now + 2
