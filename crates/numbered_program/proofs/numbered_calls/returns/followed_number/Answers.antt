use Rattle.numbered_program.proofs.NumberedCalls.FollowedNumbers.{none_followed, some_followed}
use Rattle.numbered_program.proofs.numbered_calls.returns.followed_number.Goals as goal

pub returns-then-found-eq0 : goal.returns-then-found-eq0
returns-then-found-eq0 c = none_followed c.args.numbering.now.objects.now.keys c.args.object.now c.number-found.result c.number-found.ensures.exact c.if-found-eq0.true

pub returns-else-found-eq0 : goal.returns-else-found-eq0
returns-else-found-eq0 c = some_followed c.args.numbering.now.objects.now.keys c.args.object.now c.number-found.result c.number-found.ensures.number c.if-found-eq0.false
