use Rattle.std.proofs.Common.{length}
use Rattle.objects.proofs.steps.+is_indexed_by.Given as goal

abbrev pub decreases-is_indexed_by : goal.decreases-is_indexed_by
decreases-is_indexed_by l = length l.steps.now
