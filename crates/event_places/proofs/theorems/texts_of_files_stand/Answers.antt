use Rattle.event_places.proofs.Files.{texts-stand}
use Rattle.event_places.proofs.theorems.texts_of_files_stand.Goals as goal

pub returns : goal.returns
returns c = texts-stand
