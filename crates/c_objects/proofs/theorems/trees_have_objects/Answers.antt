use Rattle.c_objects.proofs.ObjectExamples.{variable}
use Rattle.c_objects.proofs.Plain.{object-object}
use Rattle.c_objects.proofs.StepExamples.{behind_path}
use Rattle.c_objects.proofs.theorems.trees_have_objects.Goals as goal

pub returns : goal.returns
returns c u depth e o h = let a = variable in let b = behind_path in object-object u depth e o h
