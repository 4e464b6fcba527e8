use Rattle.c_grammar.proofs.UnitGrammar.SoundChunks.{chunk-sound}
use Rattle.c_grammar.proofs.UnitGrammar.CompleteChunks.{chunk-complete}
use Rattle.c_grammar.proofs.unit_grammar.theorems.chunks_are_read.Goals as goal

pub returns : goal.returns
returns c names ts e = (chunk-sound names ts e, chunk-complete names ts e)
