use Rattle.std.proofs.Common.{◌≡◌, drop}
use Rattle.c_grammar.specs.Specifiers.{is_among}
use Rattle.type_values.specs.BasicTypes.Basics.{words_of}
use Rattle.type_values.proofs.basic_types.basic.is_among.Given as goal

abbrev pub invariant-loop-line : goal.invariant-loop-line
invariant-loop-line l = is_among l.words (words_of (drop l.line-index l.lines)) ≡ is_among l.words (words_of l.lines)
