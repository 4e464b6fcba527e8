-- The piece that is cut off bytes, seen by the definition.
use Rattle.std.specs.Prelude.{◌≡◌, ◌≤◌, ◌+◌, ℕ, Bool, cond, List, length, None, Some, Result, Ok, Err, take, drop, slice_index, ⊤}
use Rattle.c_lexer.specs.declared.c_reading.mode.Mode.{Mode}
use Rattle.c_lexer.specs.declared.c_reading.fault.Fault.{Fault}
use Rattle.c_lexer.specs.declared.c_reading.fault.Fault.TheVariants.{OpenText, BadMarker}
use Rattle.c_lexer.specs.CReading.Spellings.{kind_of}
use Rattle.c_lexer.specs.CReading.Markers.{marker_of}
use Rattle.c_lexer.specs.CReading.Pieces as pieces
use Rattle.c_lexer.specs.CReading.Reading.{fault_at, spelling_fault}
use Rattle.c_lexer.specs.Ways.Cutting.{cut, comment_at, line_comment_at, marker_at, spelling_at}
use Rattle.c_lexer.specs.declared.pieces.Piece.{Piece}
use Rattle.c_lexer.specs.declared.pieces.Piece.TheVariants.{Space, Comment, LineComment, MarkerLine, Spelling}
use Rattle.c_lexer.specs.Found.{marker_view, following_line}

-- the piece with its bytes
abbrev pub piece_view : Piece → List ℕ → pieces.Piece
piece_view Space bs = pieces.Space (slice_index bs 0)
piece_view (Comment n) bs = pieces.Comment (take n bs)
piece_view (LineComment n) bs = pieces.LineComment (take n (drop 2 bs))
piece_view (MarkerLine n ended marker) bs = pieces.MarkerLine (take n (drop 1 bs)) ended
piece_view (Spelling n kind) bs = pieces.Spelling (take n bs)

-- how many bytes it has
abbrev pub piece_len : Piece → ℕ
piece_len Space = 1
piece_len (Comment n) = n
piece_len (LineComment n) = n + 2
piece_len (MarkerLine n ended marker) = n + (cond ended 2 1)
piece_len (Spelling n kind) = n

-- what it says besides
abbrev pub Says : Mode → Piece → List ℕ → Type 0
Says mode (MarkerLine n ended marker) bs = (marker_of (take n (drop 1 bs)) ≡ Some (marker_view marker)) × (following_line marker ≤ 2147483647)
Says mode (Spelling n kind) bs = kind_of mode (take n bs) ≡ Some kind
Says mode _ bs = ⊤

-- the one piece that may be cut off, or what is wrong
abbrev pub GivesPiece : Mode → Bool → List ℕ → Result Piece Fault → Type 0
GivesPiece mode first bs (Ok p) = (cut mode first bs ≡ Some (piece_view p bs)) × (1 ≤ piece_len p) × (piece_len p ≤ length bs) × Says mode p bs
GivesPiece mode first bs (Err fault) = (cut mode first bs ≡ None) × (fault ≡ fault_at mode first bs)

-- a comment, if it is closed
abbrev pub GivesComment : List ℕ → Result Piece Fault → Type 0
GivesComment bs (Ok p) = (comment_at bs ≡ Some (piece_view p bs)) × (1 ≤ piece_len p) × (piece_len p ≤ length bs) × ((mode : Mode) → Says mode p bs)
GivesComment bs (Err fault) = (comment_at bs ≡ None) × (fault ≡ OpenText)

-- a comment up to the line's end
abbrev pub GivesLineComment : List ℕ → Piece → Type 0
GivesLineComment bs p = (line_comment_at bs ≡ piece_view p bs) × (1 ≤ piece_len p) × (piece_len p ≤ length bs) × ((mode : Mode) → Says mode p bs)

-- a marker line, if it is one
abbrev pub GivesMarker : List ℕ → Result Piece Fault → Type 0
GivesMarker bs (Ok p) = (marker_at (drop 1 bs) ≡ Some (piece_view p bs)) × (1 ≤ piece_len p) × (piece_len p ≤ length bs) × ((mode : Mode) → Says mode p bs)
GivesMarker bs (Err fault) = (marker_at (drop 1 bs) ≡ None) × (fault ≡ BadMarker)

-- a token, if there is one
abbrev pub GivesToken : Mode → List ℕ → Result Piece Fault → Type 0
GivesToken mode bs (Ok p) = (spelling_at mode bs ≡ Some (piece_view p bs)) × (1 ≤ piece_len p) × (piece_len p ≤ length bs) × Says mode p bs
GivesToken mode bs (Err fault) = (spelling_at mode bs ≡ None) × (fault ≡ spelling_fault bs)

-- the number that a marker gives to the following line is small
abbrev pub NumbersLow : Piece → Type 0
NumbersLow (MarkerLine n ended marker) = following_line marker ≤ 2147483647
NumbersLow _ = ⊤
