use Rattle.c_objects.proofs.Steps.{append-append}
use Rattle.c_objects.proofs.theorems.steps_are_joined.Goals as goal

pub returns : goal.returns
returns c depth o r s = append-append depth o r s
