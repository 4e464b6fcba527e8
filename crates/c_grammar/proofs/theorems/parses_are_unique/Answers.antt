use Rattle.c_grammar.proofs.Complete.{one_parse}
use Rattle.c_grammar.proofs.theorems.parses_are_unique.Goals as goal

pub returns : goal.returns
returns c nonterminal names ts a b p q = one_parse nonterminal names ts a b p q
