use Rattle.event_places.proofs.Files.{texts-stand}
use Rattle.event_places.proofs.Reports.{event-token}
use Rattle.event_places.proofs.theorems.events_of_files_stand_at_tokens.Goals as goal

pub returns : goal.returns
returns c before names words contents checker ts have f k p q b P h goes =
    let s = texts-stand before names words contents ts have in event-token checker ts s.0 P h goes (λ n. s.2)
