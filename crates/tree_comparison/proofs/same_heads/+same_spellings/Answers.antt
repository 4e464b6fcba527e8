use Rattle.tree_comparison.proofs.TreeLevels.NoneWritten.{none_same}
use Rattle.tree_comparison.proofs.same_heads.+same_spellings.Goals as goal

pub returns-in-empty : goal.returns-in-empty
returns-in-empty t c = none_same c.args.left.now c.args.right.now c.is_empty.result c.in-empty.len_below c.is_empty.ensures
