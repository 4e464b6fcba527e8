use Rattle.event_places.proofs.Reports.{event-token}
use Rattle.event_places.proofs.theorems.events_stand_at_tokens.Goals as goal

pub returns : goal.returns
returns c checker ts stand f k p q b P h goes tables = event-token checker ts stand P h goes tables
