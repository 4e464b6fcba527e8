use Rattle.c_objects.proofs.Replacing.{replaces}
use Rattle.c_objects.proofs.theorems.replaced_objects_become_theirs.Goals as goal

pub returns : goal.returns
returns c = replaces
