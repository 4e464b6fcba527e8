use Rattle.std.proofs.Common.{length}
use Rattle.objects.proofs.steps.+has_access.Given as goal

abbrev pub decreases-has_access : goal.decreases-has_access
decreases-has_access l = length l.steps.now
