use Rattle.std.proofs.Common.{length}
use Rattle.tree_comparison.proofs.tree_levels.spellings.+are_written.Given as goal

abbrev pub decreases-are_written : goal.decreases-are_written
decreases-are_written l = length l.tokens.now
