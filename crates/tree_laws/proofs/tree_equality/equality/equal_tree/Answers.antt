use Rattle.c_tree.specs.Forget.{view}
use Rattle.tree_laws.proofs.TreeEquality.Rebuilt.{decided}
use Rattle.tree_laws.proofs.tree_equality.equality.equal_tree.Goals as goal

pub returns : goal.returns
returns c = decided _ _ _ (view c.args.a.now) (view c.args.b.now) c.written-left.ensures c.written-right.ensures c.same_levels.ensures
