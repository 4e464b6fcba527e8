-- Classes of bytes. Each is a test on one byte, by its ASCII code.
use Rattle.std.specs.Prelude.{ℕ, Bool, false, nat_le, ◌==◌, ◌&&◌, ◌||◌, not, List, [], ◌∷◌}

abbrev pub within : ℕ → ℕ → ℕ → Bool
within low high b = nat_le low b && nat_le b high

unfoldable pub is_digit : ℕ → Bool
is_digit b = within 48 57 b

-- a letter or `_`
unfoldable pub is_letter : ℕ → Bool
is_letter b = within 97 122 b || (within 65 90 b || (b == 95))

unfoldable pub is_word_byte : ℕ → Bool
is_word_byte b = is_letter b || is_digit b

-- space or tab
unfoldable pub is_gap : ℕ → Bool
is_gap b = (b == 32) || (b == 9)

-- space, tab, vertical tab, form feed, carriage return or line feed
unfoldable pub is_blank : ℕ → Bool
is_blank b = (b == 32) || within 9 13 b

-- any byte but a line feed
unfoldable pub is_within_line : ℕ → Bool
is_within_line b = not (b == 10)

-- `'` or `"`
unfoldable pub is_quote : ℕ → Bool
is_quote b = (b == 39) || (b == 34)

-- whether the list begins with this byte
abbrev pub begins : ℕ → List ℕ → Bool
begins b [] = false
begins b (c ∷ cs) = c == b
