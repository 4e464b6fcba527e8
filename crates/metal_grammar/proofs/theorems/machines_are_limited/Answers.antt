use Rattle.metal_grammar.proofs.Limited.{machines_are_limited}
use Rattle.metal_grammar.proofs.theorems.machines_are_limited.Goals as goal

pub returns : goal.returns
returns c = machines_are_limited
