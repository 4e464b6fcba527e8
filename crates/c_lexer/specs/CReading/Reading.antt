-- A reading of bytes: blanks, markers and spellings that, joined, are the bytes. It gives the tokens, and has at most one fault.
use Rattle.std.specs.Prelude.{◌≡◌, ◌≢◌, ◌≤◌, ℕ, Bool, true, false, ◌==◌, ◌&&◌, List, [], ◌∷◌, ◌++◌, length, is_some, if◌then◌else◌, option_to_list, option_map}
use Rattle.std.specs.List.{list_all}
use Rattle.c_tree.specs.declared.token.TokenKind.{TokenKind}
use Rattle.c_lexer.specs.declared.c_reading.fault.Fault.{Fault}
use Rattle.c_lexer.specs.declared.c_reading.fault.Fault.TheVariants.{BadByte, OpenText, BadNumber, BadMarker}
use Rattle.c_lexer.specs.declared.c_reading.mode.Mode.{Mode}
use Rattle.c_lexer.specs.declared.c_reading.mode.Mode.TheVariants.{C, Metal}
use Rattle.c_lexer.specs.CReading.Bytes.{is_blank, is_within_line, is_quote, begins}
use Rattle.c_lexer.specs.CReading.Spellings.{is_spelling, kind_of, begins_number}
use Rattle.c_lexer.specs.CReading.Markers.{marker_of}
use Rattle.c_lexer.specs.CReading.Pieces.{Piece, Space, Comment, LineComment, MarkerLine, Spelling, bytes_of, Here, beginning, behind, behind_all}

-- `/*` or `//` in front
abbrev pub begins_comment : List ℕ → Bool
begins_comment [] = false
begins_comment (c ∷ cs) = (c == 47) && begins 42 cs

abbrev pub begins_line_comment : List ℕ → Bool
begins_line_comment [] = false
begins_line_comment (c ∷ cs) = (c == 47) && begins 47 cs

-- The first `*/` is the end.
abbrev pub ends_comment : List ℕ → Bool
ends_comment [] = false
ends_comment (c ∷ cs) = if (c == 42) && begins 47 cs then length cs == 1 else ends_comment cs

-- `/*`, and behind these two bytes the first `*/` is the end
abbrev pub is_comment : List ℕ → Bool
is_comment [] = false
is_comment (a ∷ []) = false
is_comment (a ∷ b ∷ cs) = (a == 47) && ((b == 42) && ends_comment cs)

-- no line feed stands in it
abbrev pub is_one_line : List ℕ → Bool
is_one_line text = list_all is_within_line text

-- the bytes are at the end of a line
abbrev pub at_line_end : List ℕ → Bool
at_line_end [] = true
at_line_end (c ∷ _) = c == 10

-- s is a spelling, and no longer beginning of s and the rest is one
pub record IsLongest (mode : Mode) (s rest : List ℕ) : Type 0 where
  pub spelling : is_spelling mode s ≡ true
  pub longest : (more others : List ℕ) → rest ≡ more ++ others → is_spelling mode (s ++ more) ≡ true → more ≡ []

-- Markers stand in C alone.
abbrev pub has_markers : Mode → Bool
has_markers C = true
has_markers Metal = false

-- the piece may be cut off where the reading stands, with this rest behind it
abbrev pub IsNext : Mode → Bool → Piece → List ℕ → Type 0
IsNext mode first (Space b) rest = is_blank b ≡ true
IsNext mode first (Comment text) rest = is_comment text ≡ true
IsNext mode first (LineComment text) rest = (is_one_line text ≡ true) × (at_line_end rest ≡ true)
IsNext mode first (MarkerLine text ended) rest =
    (has_markers mode ≡ true) × (first ≡ true) × (is_one_line text ≡ true) × (is_some (marker_of text) ≡ true) × (ended ≡ false → rest ≡ [])
IsNext mode first (Spelling s) rest =
    (begins_comment (s ++ rest) ≡ false) × (begins_line_comment (s ++ rest) ≡ false) × IsLongest mode s rest × (is_some (kind_of mode s) ≡ true)

-- these pieces are cut off the bytes one after the other, which leaves the rest
abbrev pub Cuts : Mode → Here → List Piece → List ℕ → List ℕ → Type 0
Cuts mode h [] bytes rest = bytes ≡ rest
Cuts mode h (p ∷ ps) bytes rest = (others : List ℕ) × (bytes ≡ bytes_of p ++ others) × IsNext mode h.first p others × Cuts mode (behind h p) ps others rest

-- the pieces are a reading of the bytes of a file with this name
abbrev pub IsReading : Mode → List ℕ → List Piece → List ℕ → Type 0
IsReading mode file pieces bytes = Cuts mode (beginning file) pieces bytes []

-- A token that a reading gives: what it is, its spelling, and where it stands.
pub record Lexeme : Type 0 where
  pub kind : TokenKind
  pub spelling : List ℕ
  pub here : Here

abbrev pub lexeme_of : Here → List ℕ → TokenKind → Lexeme
lexeme_of h text kind = record { kind = kind; spelling = text; here = h }

-- the token of a piece, if it is a spelling
abbrev pub lexeme_at : Mode → Here → Piece → List Lexeme
lexeme_at mode h (Spelling text) = option_to_list (option_map (lexeme_of h text) (kind_of mode text))
lexeme_at mode h _ = []

-- the tokens of pieces
abbrev pub lexemes : Mode → Here → List Piece → List Lexeme
lexemes mode h [] = []
lexemes mode h (p ∷ ps) = lexeme_at mode h p ++ lexemes mode (behind h p) ps

-- what is wrong where no spelling can be cut off
unfoldable pub spelling_fault : List ℕ → Fault
spelling_fault [] = BadByte
spelling_fault (c ∷ cs) = if is_quote c then OpenText else (if begins_number (c ∷ cs) then BadNumber else BadByte)

-- what is wrong with bytes that nothing can be cut off
unfoldable pub fault_at : Mode → Bool → List ℕ → Fault
fault_at mode first [] = BadByte
fault_at mode first (c ∷ cs) =
    if begins_comment (c ∷ cs) then OpenText
    else (if has_markers mode && (first && (c == 35)) then BadMarker else spelling_fault (c ∷ cs))

-- The longest beginning of the bytes that can be cut is that of these pieces. It isn't all, and this is wrong behind it.
pub record IsFaulty (mode : Mode) (file : List ℕ) (pieces : List Piece) (bytes : List ℕ) (fault : Fault) : Type 0 where
  pub rest : List ℕ
  pub cut : Cuts mode (beginning file) pieces bytes rest
  pub longest : (others : List Piece) (left : List ℕ) → Cuts mode (beginning file) others bytes left → length rest ≤ length left
  pub left : rest ≢ []
  pub kind : fault ≡ fault_at mode (behind_all (beginning file) pieces).first rest
