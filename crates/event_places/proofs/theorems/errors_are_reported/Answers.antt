use Rattle.event_places.proofs.Reports.{object-reported}
use Rattle.event_places.proofs.theorems.errors_are_reported.Goals as goal

pub returns : goal.returns
returns c checker ts stand f k p q b P h goes o t pieces e a = object-reported checker ts stand P h goes o t pieces e a
