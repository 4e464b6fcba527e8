-- The marker lines that a preprocessor leaves.
use Rattle.std.specs.Prelude.{ℕ, Bool, true, false, ◌-◌, ◌^◌, ◌==◌, ◌&&◌, ◌||◌, List, [], ◌∷◌, take, drop, codes, Option, None, Some, option_and_then, if◌then◌else◌, bytes_eq}
use Rattle.std.specs.List.{prefix_len}
use Rattle.c_lexer.specs.CReading.Bytes.{within, is_digit, is_word_byte, is_gap, begins}
use Rattle.c_lexer.specs.CReading.Constants.{value_up_to}
use Rattle.c_lexer.specs.CReading.Spellings.{quoted}

-- What a marker says.
pub data Marker : Type 0 where
  -- nothing: its line is blank
  Skipped : Marker
  -- the number of the following line, and the file from there on, if one is named
  Renumbers : ℕ → Option (List ℕ) → Marker

-- what follows the spaces and tabs in front
abbrev pub after_gaps : List ℕ → List ℕ
after_gaps text = drop (prefix_len is_gap text) text

-- spaces and tabs, and single flags 1, 2, 3 or 4 behind them
abbrev pub are_flags : List ℕ → Bool
are_flags [] = true
are_flags (c ∷ []) = is_gap c
are_flags (c ∷ d ∷ cs) = is_gap c && (if within 49 52 d then are_flags cs else are_flags (d ∷ cs))

-- the name in a string: `\\` stands for `\` and `\"` for `"`, every other byte for itself
abbrev pub unescaped : List ℕ → List ℕ
unescaped [] = []
unescaped (c ∷ []) = c ∷ []
unescaped (c ∷ d ∷ cs) = if (c == 92) && ((d == 92) || (d == 34)) then d ∷ unescaped cs else c ∷ unescaped (d ∷ cs)

-- the file's name, which takes n bytes with its closing quote, and flags
abbrev pub file_and_flags : ℕ → List ℕ → ℕ → Option Marker
file_and_flags line text n = if are_flags (drop n text) then Some (Renumbers line (Some (unescaped (take (n - 1) text)))) else None

-- behind the line's number: a string or none, and flags
unfoldable pub behind_number : List ℕ → ℕ → Option Marker
behind_number text line =
    if begins 34 (after_gaps text)
    then option_and_then (file_and_flags line (drop 1 (after_gaps text))) (quoted 34 (drop 1 (after_gaps text)))
    else (if are_flags text then Some (Renumbers line None) else None)

-- a line's number, of at most 2^31 - 1, and what follows
unfoldable pub numbered : List ℕ → Option Marker
numbered text =
    if prefix_len is_digit text == 0 then None
    else option_and_then (behind_number (drop (prefix_len is_digit text) text)) (value_up_to (2 ^ 31 - 1) 10 (take (prefix_len is_digit text) text))

-- the word in front, which may be empty
abbrev pub first_word : List ℕ → List ℕ
first_word text = take (prefix_len is_word_byte text) text

abbrev pub begins_gap : List ℕ → Bool
begins_gap [] = false
begins_gap (c ∷ _) = is_gap c

-- what follows the word `line` and the spaces and tabs behind it, if they are there
unfoldable pub after_line_word : List ℕ → List ℕ
after_line_word text = if bytes_eq (first_word text) (codes "line") && begins_gap (drop 4 text) then after_gaps (drop 4 text) else text

-- What a marker line says, by its bytes behind `#` and before its end. `pragma`, `ident` and the rest of their line say nothing.
unfoldable pub marker_of : List ℕ → Option Marker
marker_of text =
    if bytes_eq (first_word (after_gaps text)) (codes "pragma") || bytes_eq (first_word (after_gaps text)) (codes "ident") then Some Skipped
    else numbered (after_line_word (after_gaps text))
