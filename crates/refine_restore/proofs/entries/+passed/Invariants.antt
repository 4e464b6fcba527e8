use Rattle.std.proofs.Common.{length}
use Rattle.refine_restore.proofs.entries.+passed.Given as goal

abbrev pub decreases-passed : goal.decreases-passed
decreases-passed l = length l.formals.now
