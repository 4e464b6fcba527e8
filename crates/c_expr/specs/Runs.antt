-- The runs of symbols that a tree keeps whole.
use Rattle.std.specs.Prelude.{Bool}
use Rattle.c_tree.specs.Symbol.{Symbol}
use Rattle.c_grammar.specs.Symbols.{is_string}
use Rattle.c_grammar.specs.Grammar.{is_pointer_word, is_bound_word}
use Rattle.c_expr.specs.declared.symbols.Run.{Run}
use Rattle.c_expr.specs.declared.symbols.Run.TheVariants.{Strings, Pointers, BoundWords}

-- the symbols of a run
abbrev pub stays : Run → Symbol → Bool
stays Strings = is_string
stays Pointers = is_pointer_word
stays BoundWords = is_bound_word
