use Rattle.std.proofs.Common.{length}
use Rattle.objects.proofs.steps.+ends_in_star.Given as goal

abbrev pub decreases-ends_in_star : goal.decreases-ends_in_star
decreases-ends_in_star l = length l.steps.now
