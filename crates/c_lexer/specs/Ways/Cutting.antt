-- Equal to the next piece of the one reading of `CReading/Reading`, by a reader over lists of bytes.
-- The one piece that can be cut off bytes, if there is one: a reader over lists, by the first byte.
use Rattle.std.specs.Prelude.{ℕ, Bool, ◌+◌, ◌==◌, ◌&&◌, List, [], ◌∷◌, take, drop, Option, None, Some, is_some, option_map, unwrap_or, if◌then◌else◌}
use Rattle.std.specs.List.{prefix_len}
use Rattle.c_lexer.specs.declared.c_reading.mode.Mode.{Mode}
use Rattle.c_lexer.specs.CReading.Bytes.{is_letter, is_word_byte, is_quote, is_blank, is_within_line, begins}
use Rattle.c_lexer.specs.CReading.Runs.{run_len}
use Rattle.c_lexer.specs.CReading.Scans.{plus}
use Rattle.c_lexer.specs.CReading.Punctuators.{punctuator_of}
use Rattle.c_lexer.specs.CReading.Spellings.{begins_number, goes_on, literal_len, kind_of}
use Rattle.c_lexer.specs.CReading.Markers.{marker_of}
use Rattle.c_lexer.specs.CReading.Pieces.{Piece, Space, Comment, LineComment, MarkerLine, Spelling}
use Rattle.c_lexer.specs.CReading.Reading.{begins_comment, begins_line_comment, has_markers}

unfoldable pub word_len : List ℕ → ℕ
word_len [] = 0
word_len (c ∷ cs) = if is_letter c then prefix_len is_word_byte cs + 1 else 0

unfoldable pub number_len : List ℕ → ℕ
number_len [] = 0
number_len (c ∷ cs) = if begins_number (c ∷ cs) then run_len goes_on c cs + 1 else 0

abbrev pub single_len : Mode → ℕ → ℕ
single_len mode a = if is_some (punctuator_of mode (a ∷ [])) then 1 else 0

abbrev pub pair_len : Mode → ℕ → ℕ → ℕ
pair_len mode a b = if is_some (punctuator_of mode (a ∷ b ∷ [])) then 2 else single_len mode a

abbrev pub triple_len : Mode → ℕ → ℕ → ℕ → ℕ
triple_len mode a b c = if is_some (punctuator_of mode (a ∷ b ∷ c ∷ [])) then 3 else pair_len mode a b

unfoldable pub punctuator_len : Mode → List ℕ → ℕ
punctuator_len mode [] = 0
punctuator_len mode (a ∷ []) = single_len mode a
punctuator_len mode (a ∷ b ∷ []) = pair_len mode a b
punctuator_len mode (a ∷ b ∷ c ∷ _) = triple_len mode a b c

-- a literal behind `L`, else a word
abbrev pub word_or_literal : List ℕ → ℕ
word_or_literal bs = if unwrap_or (literal_len bs) 0 == 0 then word_len bs else unwrap_or (literal_len bs) 0

-- the length of the longest spelling in front, or 0
unfoldable pub spelling_len : Mode → List ℕ → ℕ
spelling_len mode [] = 0
spelling_len mode (c ∷ cs) =
    if is_letter c then word_or_literal (c ∷ cs)
    else (if begins_number (c ∷ cs) then number_len (c ∷ cs)
    else (if is_quote c then unwrap_or (literal_len (c ∷ cs)) 0 else punctuator_len mode (c ∷ cs)))

abbrev pub spelling_of : Mode → List ℕ → ℕ → Option Piece
spelling_of mode bs n = if n == 0 then None else (if is_some (kind_of mode (take n bs)) then Some (Spelling (take n bs)) else None)

unfoldable pub spelling_at : Mode → List ℕ → Option Piece
spelling_at mode bs = spelling_of mode bs (spelling_len mode bs)

-- the number of bytes up to and with the first `*/`
abbrev pub closing : List ℕ → Option ℕ
closing [] = None
closing (c ∷ cs) = if (c == 42) && begins 47 cs then Some 2 else plus 1 (closing cs)

-- a comment, behind its first two bytes
unfoldable pub comment_at : List ℕ → Option Piece
comment_at bs = option_map (λ n. Comment (take (n + 2) bs)) (closing (drop 2 bs))

unfoldable pub line_comment_at : List ℕ → Piece
line_comment_at bs = LineComment (take (prefix_len is_within_line (drop 2 bs)) (drop 2 bs))

abbrev pub marker_line : List ℕ → ℕ → Option Piece
marker_line cs n = if is_some (marker_of (take n cs)) then Some (MarkerLine (take n cs) (begins 10 (drop n cs))) else None

-- a marker line, behind its `#`
unfoldable pub marker_at : List ℕ → Option Piece
marker_at cs = marker_line cs (prefix_len is_within_line cs)

unfoldable pub cut : Mode → Bool → List ℕ → Option Piece
cut mode first [] = None
cut mode first (c ∷ cs) =
    if is_blank c then Some (Space c)
    else (if begins_comment (c ∷ cs) then comment_at (c ∷ cs)
    else (if begins_line_comment (c ∷ cs) then Some (line_comment_at (c ∷ cs))
    else (if has_markers mode && (first && (c == 35)) then marker_at cs else spelling_at mode (c ∷ cs))))
