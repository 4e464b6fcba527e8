use Rattle.std.proofs.Common.{length, ◌+◌, ◌*◌}
use Rattle.objects.proofs.pieces.+pieces.Given as goal

abbrev pub decreases-put_steps : goal.decreases-put_steps
decreases-put_steps l = 3 * length l.steps.now

abbrev pub decreases-put_part : goal.decreases-put_part
decreases-put_part l = 3 * length l.steps.now + 1

abbrev pub decreases-put_member : goal.decreases-put_member
decreases-put_member l = 3 * length l.steps.now + 2
