use Rattle.std.proofs.Common.{length}
use Rattle.objects.proofs.steps.+are_static.Given as goal

abbrev pub decreases-are_static : goal.decreases-are_static
decreases-are_static l = length l.steps.now
