use Rattle.metal_grammar.proofs.Machines.{syntax_faults_are_read}
use Rattle.metal_grammar.proofs.theorems.syntax_faults_are_read.Goals as goal

pub returns : goal.returns
returns c = syntax_faults_are_read
