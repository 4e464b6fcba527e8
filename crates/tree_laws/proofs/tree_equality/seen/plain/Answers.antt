use Rattle.c_tree.specs.Forget.{view}
use Rattle.tree_laws.proofs.TreeEquality.SeenLevels.{plain_read}
use Rattle.tree_laws.proofs.tree_equality.seen.plain.Goals as goal

pub returns : goal.returns
returns c = plain_read _ (view c.args.tree.now) c.requires c.level.ensures
