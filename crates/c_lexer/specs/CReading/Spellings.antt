-- The spellings of tokens: words, numbers, literals and punctuators.
use Rattle.std.specs.Prelude.{ℕ, Bool, true, false, ◌==◌, ◌&&◌, ◌||◌, not, List, [], ◌∷◌, length, Option, None, Some, option_map, unwrap_or, is_some, if◌then◌else◌}
use Rattle.std.specs.List.{list_all}
use Rattle.c_tree.specs.declared.token.TokenKind.{TokenKind}
use Rattle.c_tree.specs.declared.token.TokenKind.TheVariants as kinds
use Rattle.c_lexer.specs.declared.c_reading.mode.Mode.{Mode}
use Rattle.c_lexer.specs.CReading.Bytes.{is_digit, is_letter, is_word_byte, is_quote, begins}
use Rattle.c_lexer.specs.CReading.Runs.{goes_through}
use Rattle.c_lexer.specs.CReading.Scans.{plus}
use Rattle.c_lexer.specs.CReading.Words.{word_kind}
use Rattle.c_lexer.specs.CReading.Constants.{number_kind, is_e}
use Rattle.c_lexer.specs.CReading.Punctuators.{punctuator_of}

-- a letter or `_`, then letters, digits and `_`
unfoldable pub is_word : List ℕ → Bool
is_word [] = false
is_word (c ∷ cs) = is_letter c && list_all is_word_byte cs

-- what a number goes on with: letters, digits, `_`, `.`, and a sign directly after `e` or `E`
unfoldable pub goes_on : ℕ → ℕ → Bool
goes_on p c = is_word_byte c || ((c == 46) || (is_e p && ((c == 43) || (c == 45))))

-- whether a number begins here: a digit, or `.` and a digit
abbrev pub begins_number : List ℕ → Bool
begins_number [] = false
begins_number (c ∷ []) = is_digit c
begins_number (c ∷ d ∷ _) = is_digit c || ((c == 46) && is_digit d)

-- a digit, or `.` and a digit, and what goes on
unfoldable pub is_number : List ℕ → Bool
is_number [] = false
is_number (c ∷ cs) = begins_number (c ∷ cs) && goes_through goes_on c cs

-- The number of bytes up to and with the first quote q that no backslash escapes, if the line doesn't end before it. A backslash takes the next byte with it.
abbrev pub quoted : ℕ → List ℕ → Option ℕ
quoted q [] = None
quoted q (c ∷ []) = if c == q then Some 1 else None
quoted q (c ∷ d ∷ cs) =
    if c == q then Some 1
    else (if c == 10 then None
    else (if c == 92 then (if d == 10 then None else plus 2 (quoted q cs))
    else plus 1 (quoted q (d ∷ cs))))

-- the length of a literal without prefix that begins here; there is no empty character
abbrev pub unprefixed_len : List ℕ → Option ℕ
unprefixed_len [] = None
unprefixed_len (c ∷ cs) = if is_quote c && not ((c == 39) && begins 39 cs) then plus 1 (quoted c cs) else None

-- the length of a literal that begins here, perhaps behind `L`
unfoldable pub literal_len : List ℕ → Option ℕ
literal_len [] = None
literal_len (c ∷ cs) = if c == 76 then plus 1 (unprefixed_len cs) else unprefixed_len (c ∷ cs)

-- A character or a string: the literal that begins at its first byte is all of it.
unfoldable pub is_literal : List ℕ → Bool
is_literal [] = false
is_literal (c ∷ cs) = unwrap_or (literal_len (c ∷ cs)) 0 == length (c ∷ cs)

unfoldable pub is_spelling : Mode → List ℕ → Bool
is_spelling mode s = is_word s || (is_number s || (is_literal s || is_some (punctuator_of mode s)))

-- `L'`, `L"`, `'` or `"` in front
unfoldable pub literal_kind : List ℕ → TokenKind
literal_kind [] = kinds.Char false
literal_kind (c ∷ cs) =
    if c == 76 then (if begins 39 cs then kinds.Char true else kinds.Str true)
    else (if c == 39 then kinds.Char false else kinds.Str false)

-- what a spelling is, if it is a token
unfoldable pub kind_of : Mode → List ℕ → Option TokenKind
kind_of mode s =
    if is_word s then Some (word_kind s)
    else (if is_number s then number_kind s
    else (if is_literal s then Some (literal_kind s)
    else option_map kinds.Punct (punctuator_of mode s)))
