-- What it means that tokens have a parse, one and no other, or none.
use Rattle.std.specs.Prelude.{◌≡◌, List}
use Rattle.c_tree.specs.Symbol.{Symbol}
use Rattle.c_tree.specs.Syntax.{Syntax}
use Rattle.c_grammar.specs.Names.{Names}
use Rattle.c_grammar.specs.Nonterminal.{Nonterminal}
use Rattle.c_grammar.specs.Grammar.{IsParse}

-- The tree is a parse of the symbols under these names, and there is no other.
pub record IsTheParse (nonterminal : Nonterminal) (names : Names) (e : Syntax) (ts : List Symbol) : Type 0 where
  pub parse : IsParse nonterminal names e ts
  pub alone : (other : Syntax) → IsParse nonterminal names other ts → other ≡ e

abbrev pub HasNoParse : Nonterminal → Names → List Symbol → Type 0
HasNoParse nonterminal names ts = (e : Syntax) → IsParse nonterminal names e ts → ⊥
