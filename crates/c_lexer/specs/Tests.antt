-- The test of a class of bytes.
use Rattle.std.specs.Prelude.{ℕ, Bool}
use Rattle.c_lexer.specs.declared.bytes.Class.{Class}
use Rattle.c_lexer.specs.declared.bytes.Class.TheVariants as class
use Rattle.c_lexer.specs.CReading.Bytes.{is_digit, is_word_byte, is_gap, is_within_line}
use Rattle.c_lexer.specs.CReading.Constants.{is_octal, is_hex}

abbrev pub test_of : Class → ℕ → Bool
test_of class.Word = is_word_byte
test_of class.Digit = is_digit
test_of class.Octal = is_octal
test_of class.Hexadecimal = is_hex
test_of class.Gap = is_gap
test_of class.WithinLine = is_within_line
