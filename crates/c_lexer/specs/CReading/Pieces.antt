-- The pieces that bytes are cut into, and where the reading stands behind each.
use Rattle.std.specs.Prelude.{ℕ, Bool, true, false, ◌+◌, ◌==◌, ◌&&◌, List, [], ◌∷◌, ◌++◌, length, Option, Some, unwrap_or, if◌then◌else◌}
use Rattle.c_lexer.specs.CReading.Bytes.{is_gap}
use Rattle.c_lexer.specs.CReading.Markers.{Marker, Renumbers, marker_of}

-- A piece of the bytes.
pub data Piece : Type 0 where
  -- one blank byte
  Space : ℕ → Piece
  -- a comment between `/*` and `*/`, with them
  Comment : List ℕ → Piece
  -- a comment behind `//`, up to the end of the line
  LineComment : List ℕ → Piece
  -- a marker line: what stands behind `#`, and whether a line feed ends it, which is a part of it
  MarkerLine : List ℕ → Bool → Piece
  -- the spelling of a token
  Spelling : List ℕ → Piece

-- the bytes of a piece
abbrev pub bytes_of : Piece → List ℕ
bytes_of (Space b) = b ∷ []
bytes_of (Comment text) = text
bytes_of (LineComment text) = 47 ∷ 47 ∷ text
bytes_of (MarkerLine text ended) = 35 ∷ (text ++ (if ended then 10 ∷ [] else []))
bytes_of (Spelling text) = text

-- Where a reading stands.
pub record Here : Type 0 where
  -- how many bytes stand before
  pub offset : ℕ
  -- the presumed file and line
  pub file : List ℕ
  pub line : ℕ
  -- the column in bytes in the line as it was handed in, from 1
  pub column : ℕ
  -- whether only spaces and tabs stand before on this line, and the line doesn't begin inside a comment
  pub first : Bool

-- at the beginning of a file with this name
abbrev pub beginning : List ℕ → Here
beginning file = record { offset = 0; file = file; line = 1; column = 1; first = true }

-- behind one byte
abbrev pub behind_byte : Here → ℕ → Here
behind_byte h b =
    if b == 10 then record { offset = h.offset + 1; file = h.file; line = h.line + 1; column = 1; first = true }
    else record { offset = h.offset + 1; file = h.file; line = h.line; column = h.column + 1; first = h.first && is_gap b }

-- behind bytes
abbrev pub behind_bytes : Here → List ℕ → Here
behind_bytes h [] = h
behind_bytes h (b ∷ bs) = behind_bytes (behind_byte h b) bs

-- behind bytes without a line feed that aren't all spaces and tabs
abbrev pub further : Here → ℕ → Here
further h n = record { offset = h.offset + n; file = h.file; line = h.line; column = h.column + n; first = false }

-- on the line behind a marker line of n bytes
abbrev pub on_next_line : Here → ℕ → Option Marker → Here
on_next_line h n (Some (Renumbers line file)) = record { offset = h.offset + n; file = unwrap_or file h.file; line = line; column = 1; first = true }
on_next_line h n _ = record { offset = h.offset + n; file = h.file; line = h.line + 1; column = 1; first = true }

-- behind a piece
abbrev pub behind : Here → Piece → Here
behind h (Space b) = behind_byte h b
behind h (Comment text) = record (behind_bytes h text) { first = false }
behind h (LineComment text) = further h (length text + 2)
behind h (MarkerLine text ended) = if ended then on_next_line h (length text + 2) (marker_of text) else further h (length text + 1)
behind h (Spelling text) = further h (length text)

-- behind pieces
abbrev pub behind_all : Here → List Piece → Here
behind_all h [] = h
behind_all h (p ∷ ps) = behind_all (behind h p) ps
