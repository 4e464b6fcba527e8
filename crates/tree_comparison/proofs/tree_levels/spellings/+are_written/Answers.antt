use Rattle.tree_comparison.proofs.TreeLevels.NoneWritten.{none_written}
use Rattle.tree_comparison.proofs.tree_levels.spellings.+are_written.Goals as goal

pub returns-in-empty : goal.returns-in-empty
returns-in-empty t c = none_written c.args.tokens.now c.args.pattern.now c.is_empty.result c.in-empty.len_below c.is_empty.ensures
