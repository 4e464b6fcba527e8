use Rattle.event_places.proofs.Reports.{global-reported}
use Rattle.event_places.proofs.theorems.global_errors_are_reported.Goals as goal

pub returns : goal.returns
returns c checker ts stand f k p q b P h goes t pieces e a = global-reported checker ts stand P h goes t pieces e a
