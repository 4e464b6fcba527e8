use Rattle.event_places.proofs.Errors.{error-there}
use Rattle.event_places.proofs.Files.{texts-stand}
use Rattle.event_places.proofs.theorems.errors_of_files_are_reported.Goals as goal

pub returns : goal.returns
returns c before names words contents checker ts have root l h w o t pieces e a = error-there checker ts (texts-stand before names words contents ts have).0 root l h w o t pieces e a
