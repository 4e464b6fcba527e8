use Rattle.metal_grammar.proofs.Machines.{first_faults_are_unique}
use Rattle.metal_grammar.proofs.theorems.first_faults_are_unique.Goals as goal

pub returns : goal.returns
returns c = first_faults_are_unique
