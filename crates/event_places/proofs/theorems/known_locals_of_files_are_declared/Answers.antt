use Rattle.event_places.proofs.Declared.{named-declared}
use Rattle.event_places.proofs.Files.{texts-stand}
use Rattle.event_places.proofs.Frames.{known-own}
use Rattle.event_places.proofs.Walks.{defined-frames}
use Rattle.event_places.proofs.theorems.known_locals_of_files_are_declared.Goals as goal

pub returns : goal.returns
returns c before names words contents checker ts have f k p b P o x e i =
    let s = texts-stand before names words contents ts have in
    let frames = defined-frames checker ts P in
    named-declared ts s.0 s.1 s.2 s.3 f frames.0 o.base i (known-own checker ts P o x e i)
