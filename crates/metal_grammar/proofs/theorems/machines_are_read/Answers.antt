use Rattle.metal_grammar.proofs.Machines.{machines_are_read}
use Rattle.metal_grammar.proofs.theorems.machines_are_read.Goals as goal

pub returns : goal.returns
returns c = machines_are_read
