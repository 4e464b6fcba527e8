use Rattle.metal_grammar.proofs.Kept.{machines_are_kept}
use Rattle.metal_grammar.proofs.theorems.machines_are_kept.Goals as goal

pub returns : goal.returns
returns c = machines_are_kept
