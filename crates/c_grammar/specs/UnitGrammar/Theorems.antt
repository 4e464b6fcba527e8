-- These theorems as statements, which contracts can name.
use Rattle.std.specs.Prelude.{◌≡◌, ℕ, ◌≤◌, ◌↔◌, List, Some}
use Rattle.c_tree.specs.Symbol.{Symbol}
use Rattle.c_tree.specs.Syntax.{Syntax}
use Rattle.c_tree.specs.Height.{height_of}
use Rattle.c_tree.specs.Tokens.{tokens_then}
use Rattle.c_grammar.specs.Names.{Names}
use Rattle.c_grammar.specs.UnitGrammar.Construct.{Construct}
use Rattle.c_grammar.specs.UnitGrammar.Grammar.{IsOf, IsParse}
use Rattle.c_grammar.specs.UnitGrammar.Reading.{read, chunk}
use Rattle.c_grammar.specs.UnitGrammar.Following.{Ends}

-- what is read is a tree of the grammar, and its tokens are those that were taken
abbrev pub ReadingIsSound : Type 0
ReadingIsSound = (n : ℕ) (construct : Construct) (names : Names) (ts : List Symbol) (e : Syntax) (r : List Symbol)
    → read n construct names ts ≡ Some (e, r)
    → (ts ≡ tokens_then e r) × IsOf construct names e × (height_of e ≤ n)

-- each tree of the grammar is read, where what follows doesn't go on with it
abbrev pub ReadingIsComplete : Type 0
ReadingIsComplete = (n : ℕ) (construct : Construct) (names : Names) (e : Syntax) (r : List Symbol)
    → IsOf construct names e → height_of e ≤ n → Ends construct names e r
    → read n construct names (tokens_then e r) ≡ Some (e, r)

-- the tree that is read of a chunk is exactly its parse
abbrev pub ChunksAreRead : Type 0
ChunksAreRead = (names : Names) (ts : List Symbol) (e : Syntax) → (chunk names ts ≡ Some e) ↔ IsParse names e ts

-- a chunk has at most one parse
abbrev pub ParsesAreUnique : Type 0
ParsesAreUnique = (names : Names) (ts : List Symbol) (a b : Syntax) → IsParse names a ts → IsParse names b ts → a ≡ b
