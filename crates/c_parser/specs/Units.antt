-- What the trees of a unit's tokens are: the parses of its chunks (ISO 9899:1990, 6.7).
use Rattle.std.specs.Prelude.{◌≡◌, ℕ, ◌+◌, ◌-◌, List, [], ◌∷◌, Some, drop, take, slice_get}
use Rattle.c_tree.specs.declared.place.Place.{Place}
use Rattle.c_tree.specs.declared.token.Token.{Token}
use Rattle.c_tree.specs.Symbol.{symbols_of}
use Rattle.c_tree.specs.Syntax.{Syntax, Syntaxes}
use Rattle.c_lexer.specs.CReading.Chunks.{EndsChunk}
use Rattle.c_grammar.specs.Names.{Names}
use Rattle.c_grammar.specs.UnitGrammar.Grammar.{IsParse, AreParses, IsFirstBad}
use Rattle.c_expr.specs.Standing.{IsFirst}

-- the tokens of the chunk with these bounds
abbrev pub tokens_in : List Token → ℕ × ℕ → List Token
tokens_in ts c = take (c.1 - c.0) (drop c.0 ts)

-- The tree is the parse of this chunk. What is left behind the last end of a chunk has none.
pub record IsParseIn (ts : List Token) (names : Names) (e : Syntax) (c : ℕ × ℕ) : Type 0 where
  pub parse : IsParse names e (symbols_of (tokens_in ts c))
  pub last : ℕ
  pub end : c.1 ≡ last + 1
  pub ends : EndsChunk ts last

-- The trees are the parses of these chunks, and no others are.
pub record AreTheTrees (ts : List Token) (chunks : List (ℕ × ℕ)) (es : Syntaxes) : Type 0 where
  pub parses : AreParses (IsParseIn ts) [] es chunks
  pub alone : (others : Syntaxes) → AreParses (IsParseIn ts) [] others chunks → others ≡ es

-- The first of these chunks that has no parse begins at this place.
pub record IsFirstBadAt (ts : List Token) (chunks : List (ℕ × ℕ)) (place : Place) : Type 0 where
  pub number : ℕ
  pub bad : IsFirstBad (IsParseIn ts) [] chunks number
  pub chunk : ℕ × ℕ
  pub there : slice_get chunks number ≡ Some chunk
  pub begins : IsFirst place (drop chunk.0 ts)
