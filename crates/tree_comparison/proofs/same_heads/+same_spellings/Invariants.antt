use Rattle.std.proofs.Common.{length}
use Rattle.tree_comparison.proofs.same_heads.+same_spellings.Given as goal

abbrev pub decreases-same_spellings : goal.decreases-same_spellings
decreases-same_spellings l = length l.left.now
