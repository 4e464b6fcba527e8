use Rattle.event_places.proofs.Frames.{known-own}
use Rattle.event_places.proofs.theorems.known_locals_are_own.Goals as goal

pub returns : goal.returns
returns c checker ts f k p b P o x e i = known-own checker ts P o x e i
