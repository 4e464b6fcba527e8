use Rattle.c_grammar.proofs.UnitGrammar.Complete.{read-complete}
use Rattle.c_grammar.proofs.unit_grammar.theorems.reading_is_complete.Goals as goal

pub returns : goal.returns
returns c = read-complete
