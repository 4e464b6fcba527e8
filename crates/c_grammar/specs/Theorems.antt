-- These theorems as statements, which contracts can name.
use Rattle.std.specs.Prelude.{◌≡◌, ℕ, ◌≤◌, ◌↔◌, List, Some}
use Rattle.c_tree.specs.Symbol.{Symbol}
use Rattle.c_tree.specs.Syntax.{Syntax}
use Rattle.c_tree.specs.Height.{height_of}
use Rattle.c_tree.specs.Tokens.{tokens_then}
use Rattle.c_grammar.specs.Names.{Names}
use Rattle.c_grammar.specs.Nonterminal.{Nonterminal}
use Rattle.c_grammar.specs.Grammar.{IsOf, IsParse}
use Rattle.c_grammar.specs.Reading.{read, whole}
use Rattle.c_grammar.specs.Following.{Ends}

-- what is read is a tree of the grammar, and its tokens are those that were taken
abbrev pub ReadingIsSound : Type 0
ReadingIsSound = (n : ℕ) (nonterminal : Nonterminal) (names : Names) (ts : List Symbol) (e : Syntax) (r : List Symbol)
    → read n nonterminal names ts ≡ Some (e, r)
    → (ts ≡ tokens_then e r) × IsOf nonterminal names e × (height_of e ≤ n)

-- each tree of the grammar is read, where what follows doesn't go on with it
abbrev pub ReadingIsComplete : Type 0
ReadingIsComplete = (n : ℕ) (nonterminal : Nonterminal) (names : Names) (e : Syntax) (r : List Symbol)
    → IsOf nonterminal names e → height_of e ≤ n → Ends nonterminal names r
    → read n nonterminal names (tokens_then e r) ≡ Some (e, r)

-- the tree that is read of all symbols is exactly their parse
abbrev pub ParsesAreRead : Type 0
ParsesAreRead = (nonterminal : Nonterminal) (names : Names) (ts : List Symbol) (e : Syntax)
    → (whole nonterminal names ts ≡ Some e) ↔ IsParse nonterminal names e ts

-- symbols have at most one parse
abbrev pub ParsesAreUnique : Type 0
ParsesAreUnique = (nonterminal : Nonterminal) (names : Names) (ts : List Symbol) (a b : Syntax)
    → IsParse nonterminal names a ts → IsParse nonterminal names b ts → a ≡ b
