use Rattle.event_places.proofs.Frames.{end-local, taken-own}
use Rattle.event_places.proofs.theorems.ends_ask_own_locals.Goals as goal

pub returns : goal.returns
returns c checker ts f p q b P h goes exit o t e =
    let local = end-local checker ts f h _ o _ t exit e in (local, taken-own checker ts P h goes o t e local)
