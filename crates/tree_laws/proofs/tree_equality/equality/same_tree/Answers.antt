use Rattle.c_tree.specs.Forget.{view}
use Rattle.c_tree.specs.Compared.{compared}
use Rattle.tree_laws.proofs.TreeEquality.Rebuilt.{decided}
use Rattle.tree_laws.proofs.tree_equality.equality.same_tree.Goals as goal

pub returns : goal.returns
returns c = decided _ _ _ (compared (view c.args.a.now)) (compared (view c.args.b.now)) c.read-left.ensures c.read-right.ensures c.same_levels.ensures
