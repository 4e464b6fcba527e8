use Rattle.c_grammar.proofs.Complete.{read-complete}
use Rattle.c_grammar.proofs.theorems.reading_is_complete.Goals as goal

pub returns : goal.returns
returns c n nonterminal names e r w h s = read-complete n nonterminal names e r w h s
