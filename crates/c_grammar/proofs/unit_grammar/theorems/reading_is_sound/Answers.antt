use Rattle.c_grammar.proofs.UnitGrammar.Sound.{read-sound}
use Rattle.c_grammar.proofs.unit_grammar.theorems.reading_is_sound.Goals as goal

pub returns : goal.returns
returns c n construct names ts e r h = let s = read-sound n construct names ts e r h in (s.tokens, s.well, s.height)
