-- The words of types.
use Rattle.std.specs.Prelude.{Bool, true, false, List}
use Rattle.c_tree.specs.Symbol.{Symbol, symbols_of}
use Rattle.c_tree.specs.Syntax.{Syntax, Specifier, Specs, Syntaxes, no_more, more}
use Rattle.metal_grammar.specs.Patterns.{are_plain_words, are_stars}
use Rattle.metal_grammar.specs.Ways.Steps.{is_type_symbol}
use Rattle.metal_tree.specs.MetalMachines.Kept.{all_of}
use Rattle.metal_written.specs.declared.written.WrittenType.{WrittenType}
use Rattle.metal_written.specs.declared.written.WrittenType.TheVariants as types

-- The words of a basic type are all words of basic types.
abbrev pub has_type_words : WrittenType → Bool
has_type_words (types.Basic ws stars) = all_of is_type_symbol (symbols_of ws.now)
has_type_words _ = true

-- these are specifiers of plain words
abbrev pub are_plain_specs : Syntax → Bool
are_plain_specs (Specifier (Specs words)) = are_plain_words words
are_plain_specs _ = false

-- stars alone, with nothing behind
abbrev pub are_plain_pointers : List Symbol → Syntaxes → Bool
are_plain_pointers pointers no_more = are_stars pointers
are_plain_pointers pointers (more e es) = false
