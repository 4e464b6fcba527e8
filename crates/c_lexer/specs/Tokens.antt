-- Tokens as they are kept, and what they stand for.
use Rattle.std.specs.Prelude.{◌≡◌, ◌+◌, ◌≤◌, ◌==◌, ℕ, zero, suc, List, [], ◌∷◌, length, Some, slice_get, ⊤, if◌then◌else◌}
use Rattle.c_tree.specs.declared.token.Token.{Token}
use Rattle.c_lexer.specs.declared.c_reading.mode.Mode.{Mode}
use Rattle.c_lexer.specs.declared.c_reading.fault.Fault.{Fault}
use Rattle.c_lexer.specs.declared.c_reading.fault.Fault.TheVariants as fault
use Rattle.c_lexer.specs.CReading.Pieces.{Piece, Here, beginning, behind_all}
use Rattle.c_lexer.specs.CReading.Reading.{Lexeme, lexemes, IsFaulty}
use Rattle.c_lexer.specs.Faults.{fault_there}
use Rattle.c_lexer.specs.declared.fault.LexFault.{LexFault}
use Rattle.c_lexer.specs.declared.fault.LexFault.TheVariants.{BadByte, OpenText, BadNumber, BadMarker, NoMemory}
use Rattle.c_lexer.specs.declared.fault.Spot.{Spot}

-- the token stands for the lexeme, in the file with this number, with so many tokens before
pub record IsToken (number : ℕ) (names : List (List ℕ)) (before : ℕ) (lexeme : Lexeme) (token : Token) : Type 0 where
  pub kind : token.kind ≡ lexeme.kind
  pub name : slice_get names token.name ≡ Some lexeme.spelling
  pub start : token.start ≡ lexeme.here.offset
  pub len : token.len ≡ length lexeme.spelling
  pub line : token.line ≡ lexeme.here.line
  pub col : token.col ≡ lexeme.here.column
  pub source : slice_get names token.source ≡ Some lexeme.here.file
  pub file : token.place.file ≡ number
  pub place : token.place.token ≡ before

-- one token for each lexeme, in order
abbrev pub AreTokens : ℕ → List (List ℕ) → ℕ → List Lexeme → List Token → Type 0
AreTokens number names before [] [] = ⊤
AreTokens number names before [] (t ∷ ts) = ⊥
AreTokens number names before (l ∷ ls) [] = ⊥
AreTokens number names before (l ∷ ls) (t ∷ ts) = IsToken number names before l t × AreTokens number names (before + 1) ls ts

-- the spot is where the reading stands, in the file with this number, with so many tokens before
pub record IsSpot (number : ℕ) (names : List (List ℕ)) (before : ℕ) (here : Here) (spot : Spot) : Type 0 where
  pub file : spot.place.file ≡ number
  pub place : spot.place.token ≡ before
  pub source : slice_get names spot.source ≡ Some here.file
  pub line : spot.line ≡ here.line
  pub col : spot.col ≡ here.column

-- the tokens of a source, and where its bytes end
pub record TokenList : Type 0 where
  pub all : List Token
  pub end : Spot

-- the presumed file, the presumed line and the column of the token with this number, else those of the end
abbrev pub position_of : List Token → Spot → ℕ → ℕ × ℕ × ℕ
position_of [] end n = (end.source, end.line, end.col)
position_of (t ∷ ts) end n = if t.place.token == n then (t.source, t.line, t.col) else position_of ts end n

-- the tokens and the end are those of a reading of the bytes with these pieces
pub record Lexes (mode : Mode) (number : ℕ) (word : List ℕ) (names : List (List ℕ)) (pieces : List Piece) (list : TokenList) : Type 0 where
  pub tokens : AreTokens number names 0 (lexemes mode (beginning word) pieces) list.all
  pub end : IsSpot number names (length list.all) (behind_all (beginning word) pieces) list.end

-- the spot is where these pieces end, which are the longest beginning that can be cut, and this is wrong there
pub record IsFault (mode : Mode) (number : ℕ) (word : List ℕ) (names : List (List ℕ)) (bytes : List ℕ) (fault : Fault) (spot : Spot) : Type 0 where
  pub pieces : List Piece
  pub faulty : IsFaulty mode word pieces bytes fault
  pub there : IsSpot number names (length (lexemes mode (beginning word) pieces)) (behind_all (beginning word) pieces) spot

-- why there are no tokens
abbrev pub Refuses : Mode → ℕ → List ℕ → List (List ℕ) → List ℕ → LexFault → Type 0
Refuses mode number word names bytes (BadByte spot) = IsFault mode number word names bytes fault.BadByte spot
Refuses mode number word names bytes (OpenText spot) = IsFault mode number word names bytes fault.OpenText spot
Refuses mode number word names bytes (BadNumber spot) = IsFault mode number word names bytes fault.BadNumber spot
Refuses mode number word names bytes (BadMarker spot) = IsFault mode number word names bytes fault.BadMarker spot
Refuses mode number word names bytes NoMemory = ⊤

-- the number of the place of the k-th token
abbrev pub number_at : List Token → ℕ → ℕ
number_at [] k = 0
number_at (t ∷ ts) zero = t.place.token
number_at (t ∷ ts) (suc k) = number_at ts k

-- the refusal is this fault, where these pieces end
abbrev pub IsThere : Mode → ℕ → List ℕ → List (List ℕ) → List Piece → Fault → LexFault → Type 0
IsThere mode number word names pieces kind fault =
    (spot : Spot) × (fault ≡ fault_there kind spot) × IsSpot number names (length (lexemes mode (beginning word) pieces)) (behind_all (beginning word) pieces) spot
