use Rattle.c_lexer.proofs.SpellingSteps.{word_gives}
use Rattle.c_lexer.proofs.spellings.word_or_literal.Goals as goal

pub returns : goal.returns
returns c =
    word_gives c.args.mode c.args.first c.args.bytes.now c.front_len-len.result c.word_kind.result c.requires.begins c.requires.letter
    c.in_default.ensures c.front_len-len.ensures.count c.front_len-len.ensures.within c.word_kind.ensures
