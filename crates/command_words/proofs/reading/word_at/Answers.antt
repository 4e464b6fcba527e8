use Rattle.std.proofs.Common.{string_bytes}
use Rattle.command_words.proofs.Steps.{word_next}
use Rattle.command_words.proofs.reading.word_at.Goals as goal

pub returns : goal.returns
returns c = word_next string_bytes c.args.words.now c.args.index c.index-words-index.result c.as_str.result.now c.requires c.index-words-index.is c.as_str.ensures.value
