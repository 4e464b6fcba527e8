-- How far the lexer has come.
use Rattle.std.specs.Prelude.{◌≡◌, ◌+◌, ◌≤◌, ℕ, List, length, ◌++◌, Some, slice_get}
use Rattle.c_tree.specs.declared.token.Token.{Token}
use Rattle.c_lexer.specs.declared.c_reading.mode.Mode.{Mode}
use Rattle.c_lexer.specs.CReading.Pieces as pieces
use Rattle.mx_base.specs.Names.{AddsAtMost, HasNoRepeats, names_after}
use Rattle.c_lexer.specs.CReading.Reading.{Cuts, lexeme_at, lexemes}
use Rattle.c_lexer.specs.declared.fault.Spot.{Spot}
use Rattle.c_lexer.specs.declared.here.Here.{Here}
use Rattle.c_lexer.specs.Naming.{named_by}
use Rattle.c_lexer.specs.Tokens.{AreTokens}

-- where the lexer stands in a presumed file
abbrev pub here_of : List ℕ → Here → pieces.Here
here_of file h = record { offset = h.offset; file = file; line = h.line; column = h.column; first = h.first }

-- line and column are no larger than the bytes before allow
pub record InBounds (h : Here) : Type 0 where
  pub line : h.line ≤ h.offset + 2147483648
  pub column : h.column ≤ h.offset + 1

-- from here on the lexer comes behind a piece, and keeps its token
pub record Steps (mode : Mode) (number : ℕ) (names : List (List ℕ)) (file : List ℕ) (here next : Here) (p : pieces.Piece) (old new : List Token) : Type 0 where
  pub next_file : List ℕ
  pub known : slice_get names next.source ≡ Some next_file
  pub stands : here_of next_file next ≡ pieces.behind (here_of file here) p
  pub more : List Token
  pub pushed : new ≡ old ++ more
  pub tokens : AreTokens number names (length old) (lexeme_at mode (here_of file here) p) more

-- the lexer stands there, in a file whose name is known
pub record Lands (names : List (List ℕ)) (next : Here) (h : pieces.Here) : Type 0 where
  pub file : List ℕ
  pub known : slice_get names next.source ≡ Some file
  pub stands : here_of file next ≡ h

-- the spot where the lexer stands, with so many tokens before
abbrev pub spot_of : ℕ → Here → ℕ → Spot
spot_of number h before = record { place = record { file = number; token = before }; source = h.source; line = h.line; col = h.column }

-- So far the lexer has cut the bytes up to the rest, and kept their tokens.
pub record Reached (mode : Mode) (number : ℕ) (word bytes : List ℕ) (before : List (List ℕ)) (rest : List ℕ) (here : Here) (kept : List Token) (names : List (List ℕ)) : Type 0 where
  pub cut : List pieces.Piece
  pub cuts : Cuts mode (pieces.beginning word) cut bytes rest
  pub file : List ℕ
  pub known : slice_get names here.source ≡ Some file
  pub stands : here_of file here ≡ pieces.behind_all (pieces.beginning word) cut
  pub tokens : AreTokens number names 0 (lexemes mode (pieces.beginning word) cut) kept
  pub adds : AddsAtMost before names (here.offset + 1)
  pub named : names ≡ named_by (names_after before word) cut
  pub once : HasNoRepeats names
  pub size : here.offset + length rest ≡ length bytes
  pub bounds : InBounds here
