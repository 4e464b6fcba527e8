use Rattle.std.proofs.Common.{◌≡◌, take, filter_map}
use Rattle.c_tree.specs.Symbol.{symbols_of}
use Rattle.metal_grammar.specs.Ways.Steps.{keyword_in}
use Rattle.metal_numbers.proofs.metal_declared.declared_holes.keywords_of.Given as goal

abbrev pub invariant-loop-word : goal.invariant-loop-word
invariant-loop-word l = l.keywords.items ≡ filter_map keyword_in (symbols_of (take l.word-index l.words))
