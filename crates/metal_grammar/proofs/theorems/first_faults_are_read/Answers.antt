use Rattle.metal_grammar.proofs.Machines.{first_faults_are_read}
use Rattle.metal_grammar.proofs.theorems.first_faults_are_read.Goals as goal

pub returns : goal.returns
returns c = first_faults_are_read
