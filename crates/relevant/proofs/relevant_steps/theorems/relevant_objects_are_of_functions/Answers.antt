use Rattle.relevant.proofs.RelevantSteps.Found.{relevant-found}
use Rattle.relevant.proofs.relevant_steps.theorems.relevant_objects_are_of_functions.Goals as goal

pub returns : goal.returns
returns c w k ts gs graphs apart f o r = let x = relevant-found w k ts gs graphs apart f o r in (x.number, x.named)
