use Rattle.std.proofs.Common.{◌≡◌, drop}
use Rattle.c_grammar.specs.Specifiers.{as_often}
use Rattle.type_values.proofs.basic_types.words.as_often.Given as goal

abbrev pub invariant-loop-word : goal.invariant-loop-word
invariant-loop-word l = as_often (drop l.word-index l.words) l.words l.others ≡ as_often l.words l.words l.others
