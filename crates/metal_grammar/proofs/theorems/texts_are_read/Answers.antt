use Rattle.metal_grammar.proofs.Machines.{texts_are_read}
use Rattle.metal_grammar.proofs.theorems.texts_are_read.Goals as goal

pub returns : goal.returns
returns c = texts_are_read
