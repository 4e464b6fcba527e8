use Rattle.metal_grammar.proofs.Known.{texts_are_known}
use Rattle.metal_grammar.proofs.theorems.texts_are_known.Goals as goal

pub returns : goal.returns
returns c = texts_are_known
