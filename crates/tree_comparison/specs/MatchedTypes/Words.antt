-- The words of a written type.
use Rattle.std.specs.Prelude.{List, take, Option, None, Some}
use Rattle.c_tree.specs.declared.keyword.Keyword.{Keyword}
use Rattle.c_tree.specs.Symbol.{Reserved}
use Rattle.c_tree.specs.Syntax.{Syntax, Part}
use Rattle.c_tree.specs.Syntax as syntax
use Rattle.tree_comparison.specs.declared.matched_types.words.Words as code

abbrev pub words_in : code.Words → List Keyword
words_in w = take w.count w.all

-- the keyword that a specifier is
abbrev pub word_of : Syntax → Option Keyword
word_of (Part (syntax.SpecWord (Reserved k))) = Some k
word_of _ = None
