use Rattle.metal_grammar.proofs.Whole.{texts_are_their_tokens}
use Rattle.metal_grammar.proofs.theorems.texts_are_their_tokens.Goals as goal

pub returns : goal.returns
returns c = texts_are_their_tokens
