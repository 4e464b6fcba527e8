use Rattle.std.proofs.Common.{◌≡◌, ◌++◌, drop, filter_map}
use Rattle.c_tree.specs.Symbol.{symbols_of}
use Rattle.metal_grammar.specs.Ways.Steps.{keyword_in}
use Rattle.metal_forms.proofs.types.are_basic.Given as goal

abbrev pub invariant-loop-word : goal.invariant-loop-word
invariant-loop-word l = l.keywords.items ++ filter_map keyword_in (symbols_of (drop l.word-index l.words)) ≡ filter_map keyword_in (symbols_of l.words)
