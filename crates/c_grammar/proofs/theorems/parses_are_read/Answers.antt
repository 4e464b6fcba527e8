use Rattle.c_grammar.proofs.Sound.{whole-sound}
use Rattle.c_grammar.proofs.Complete.{whole-complete}
use Rattle.c_grammar.proofs.theorems.parses_are_read.Goals as goal

pub returns : goal.returns
returns c nonterminal names ts e = (whole-sound nonterminal names ts e, whole-complete nonterminal names ts e)
