-- What may follow a tree: a symbol that doesn't go on with it.
use Rattle.std.specs.Prelude.{◌≡◌, true, false, List}
use Rattle.c_tree.specs.declared.keyword.Keyword.TheVariants as words
use Rattle.c_tree.specs.declared.punctuator.Punctuator.TheVariants as marks
use Rattle.c_tree.specs.Symbol.{Symbol}
use Rattle.c_tree.specs.Syntax.{Syntax}
use Rattle.c_grammar.specs.Symbols.{begins, is_sign, is_keyword}
use Rattle.c_grammar.specs.Names.{Names}
use Rattle.c_grammar.specs.Specifiers.{goes_on}
use Rattle.c_grammar.specs.UnitGrammar.Construct.{Construct, SpecifiersIn, TaggedType, OneStatement}
use Rattle.c_grammar.specs.UnitGrammar.Statements.{takes_else}

-- no `else` stands behind a statement that would take it
abbrev pub LeavesNoElse : Syntax → List Symbol → Type 0
LeavesNoElse e ts = takes_else e ≡ true → begins (is_keyword words.Else) ts ≡ false

-- Behind a tag no `{` follows, which would begin a body.
abbrev pub Ends : Construct → Names → Syntax → List Symbol → Type 0
Ends (SpecifiersIn place) names e ts = (begins (goes_on names true) ts ≡ false) × (begins (is_sign marks.OpenBrace) ts ≡ false)
Ends TaggedType names e ts = begins (is_sign marks.OpenBrace) ts ≡ false
Ends OneStatement names e ts = LeavesNoElse e ts
Ends _ names e ts = Unit {0}
