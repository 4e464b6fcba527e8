use Rattle.metal_grammar.proofs.Machines.{never_both}
use Rattle.metal_grammar.proofs.theorems.never_both.Goals as goal

pub returns : goal.returns
returns c = never_both
