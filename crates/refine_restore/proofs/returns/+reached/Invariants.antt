use Rattle.std.proofs.Common.{length}
use Rattle.refine_restore.proofs.returns.+reached.Given as goal

abbrev pub decreases-reached : goal.decreases-reached
decreases-reached l = length l.formals.now
