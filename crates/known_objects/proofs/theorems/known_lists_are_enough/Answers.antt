use Rattle.known_objects.proofs.MaskedLists.{known-enough}
use Rattle.known_objects.proofs.theorems.known_lists_are_enough.Goals as goal

pub returns : goal.returns
returns c = known-enough
