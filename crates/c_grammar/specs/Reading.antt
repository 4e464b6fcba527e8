-- The reader over lists of symbols. It takes the names in force and gives none back, since no tree of this grammar changes
-- them outside itself.
use Rattle.std.specs.Prelude.{ℕ, zero, suc, List, [], ◌∷◌, Option, None, Some}
use Rattle.c_tree.specs.Symbol.{Symbol}
use Rattle.c_tree.specs.Syntax.{Syntax}
use Rattle.c_grammar.specs.Names.{Names}
use Rattle.c_grammar.specs.Nonterminal.{Nonterminal, Expression, Specifiers, NameOfType, DeclaratorIn, Parameter}
use Rattle.c_grammar.specs.Found.{◌>>=◌, Found, Reader}
use Rattle.c_grammar.specs.Ways.SpecifierSteps.{read_specifiers, read_tag}
use Rattle.c_grammar.specs.Ways.DeclaratorSteps.{read_declarator, read_type_name, read_param}
use Rattle.c_grammar.specs.Ways.ExpressionSteps.{read_expression}

-- a tree of height at most m, whose parts `inner` reads
abbrev pub read_part : Reader → ℕ → Reader
read_part inner m (Expression level) names ts = read_expression inner m level names ts
read_part inner m (Specifiers place) names ts = read_specifiers read_tag m place names ts
read_part inner m NameOfType names ts = read_type_name inner m names ts
read_part inner m (DeclaratorIn form) names ts = read_declarator inner m form names ts
read_part inner m Parameter names ts = read_param inner m names ts

-- a tree of height at most the first number, in front of the symbols
unfoldable pub read : ℕ → Reader
read zero = λ nonterminal names ts. None
read (suc n) = read_part (read n) (suc n)

abbrev pub if_empty : Syntax → List Symbol → Option Syntax
if_empty e [] = Some e
if_empty e (t ∷ ts) = None

abbrev pub ended : Found → Option Syntax
ended found = if_empty found.0 found.1

-- the tree of all these symbols
abbrev pub whole : Nonterminal → Names → List Symbol → Option Syntax
whole nonterminal names ts = read 1000 nonterminal names ts >>= ended
