use Rattle.c_grammar.proofs.UnitGrammar.CompleteChunks.{one_parse}
use Rattle.c_grammar.proofs.unit_grammar.theorems.parses_are_unique.Goals as goal

pub returns : goal.returns
returns c = one_parse
