use Rattle.c_grammar.proofs.Sound.{read-sound}
use Rattle.c_grammar.proofs.theorems.reading_is_sound.Goals as goal

pub returns : goal.returns
returns c n nonterminal names ts e r h = let s = read-sound n nonterminal names ts e r h in (s.tokens, s.well, s.height)
