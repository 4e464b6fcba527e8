use Rattle.metal_grammar.proofs.Machines.{machine_or_fault}
use Rattle.metal_grammar.proofs.theorems.machine_or_fault.Goals as goal

pub returns : goal.returns
returns c = machine_or_fault
