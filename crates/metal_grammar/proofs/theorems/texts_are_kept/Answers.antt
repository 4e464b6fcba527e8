use Rattle.metal_grammar.proofs.Kept.{texts_are_kept}
use Rattle.metal_grammar.proofs.theorems.texts_are_kept.Goals as goal

pub returns : goal.returns
returns c = texts_are_kept
