use Rattle.relevant.proofs.RelevantSteps.Found.{found}
use Rattle.relevant.proofs.relevant_steps.theorems.objects_found_in_steps_are_relevant.Goals as goal

pub returns : goal.returns
returns c w k ts gs graphs apart n f o e = found w k ts gs graphs apart n f o e
