use Rattle.std.proofs.Common.{◌∙◌}
use Rattle.tree_comparison.proofs.TreeLevels.OpenedTrees.{at_primary}
use Rattle.tree_comparison.proofs.tree_levels.levels.+level.Goals as goal
use Rattle.objects.specs.Units.{facts_in}

pub tree_level-returns-in-Primary : goal.tree_level-returns-in-Primary
tree_level-returns-in-Primary t c = c.primary_level.ensures ∙ at_primary (facts_in c.args.unit.now) c.args.tree.now _ c.in-Primary.is
