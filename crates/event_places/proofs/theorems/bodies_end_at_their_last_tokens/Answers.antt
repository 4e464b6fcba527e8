use Rattle.event_places.proofs.Closing.{body-closes}
use Rattle.event_places.proofs.theorems.bodies_end_at_their_last_tokens.Goals as goal

pub returns : goal.returns
returns c = body-closes
