-- The definition on examples, each by computation.
use Rattle.std.proofs.Common.{◌≡◌, true, false, [], ◌∷◌, ◌++◌, codes, None, Some, refl}
use Rattle.c_tree.specs.declared.token.Token.{Token}
use Rattle.c_tree.specs.declared.token.TokenKind.{TokenKind}
use Rattle.c_tree.specs.declared.token.TokenKind.TheVariants as kinds
use Rattle.c_tree.specs.declared.token.FloatEnd.TheVariants as ends
use Rattle.c_tree.specs.declared.token.Mark.TheVariants as mark
use Rattle.c_tree.specs.declared.keyword.Keyword.TheVariants as keyword
use Rattle.c_tree.specs.declared.punctuator.Punctuator.TheVariants as punctuator
use Rattle.c_lexer.specs.declared.c_reading.fault.Fault.TheVariants.{BadByte, OpenText}
use Rattle.c_lexer.specs.declared.c_reading.mode.Mode.TheVariants.{C, Metal}
use Rattle.c_lexer.specs.CReading.Bytes.{is_digit, is_letter, is_word_byte, is_gap, is_blank, is_quote}
use Rattle.c_lexer.specs.CReading.Words.{special_words, word_kind}
use Rattle.c_lexer.specs.CReading.Punctuators.{singles, pairs, triples, punctuators, punctuator_of}
use Rattle.c_lexer.specs.CReading.Constants.{is_octal, is_hex, digit_value, suffix_of, integer_in, hexadecimal, integer_of, after_digits, float_end, exponent_digits, exponent, after_point, after_whole, float_of, number_kind}
use Rattle.c_lexer.specs.CReading.Spellings.{is_word, is_number, quoted, is_literal, literal_len, kind_of}
use Rattle.c_lexer.specs.CReading.Markers.{Skipped, Renumbers, unescaped, behind_number, numbered, after_line_word, marker_of}
use Rattle.c_lexer.specs.CReading.Pieces.{Space, Comment, LineComment, MarkerLine, Spelling, beginning, behind_all}
use Rattle.c_lexer.specs.CReading.Reading.{fault_at, spelling_fault}
use Rattle.c_lexer.specs.Ways.Cutting.{word_len, punctuator_len, spelling_len, spelling_at, comment_at, cut}
use Rattle.c_lexer.specs.CReading.Strip.{group_end, group_len, asm_len, dropped_with, stripped_behind, stripped}
use Rattle.c_lexer.specs.CReading.Chunks.{depth_at, begins_body}

-- ---- numbers

largest : number_kind (codes "18446744073709551615") ≡ Some (kinds.Int 18446744073709551615 true false 0)
unfolding number_kind integer_of integer_in is_digit digit_value suffix_of float_of
largest = refl

too_large : number_kind (codes "18446744073709551616") ≡ None
unfolding number_kind integer_of integer_in is_digit digit_value suffix_of float_of after_whole after_digits
too_large = refl

no_octal : number_kind (codes "08") ≡ None
unfolding number_kind integer_of integer_in is_digit is_octal digit_value suffix_of float_of after_whole after_digits
no_octal = refl

octal : number_kind (codes "017UL") ≡ Some (kinds.Int 15 false true 1)
unfolding number_kind integer_of integer_in is_digit is_octal digit_value suffix_of float_of
octal = refl

hexadecimal_number : number_kind (codes "0xfFllu") ≡ Some (kinds.Int 255 false true 2)
unfolding number_kind integer_of integer_in hexadecimal is_hex is_digit is_octal digit_value suffix_of float_of
hexadecimal_number = refl

no_hexadecimal : number_kind (codes "0x") ≡ None
unfolding number_kind integer_of integer_in hexadecimal is_hex is_digit is_octal digit_value suffix_of float_of after_whole after_digits exponent
no_hexadecimal = refl

floating : number_kind (codes "1e+5") ≡ Some (kinds.Float ends.Double)
unfolding number_kind integer_of integer_in is_digit digit_value suffix_of float_of after_whole after_digits exponent exponent_digits float_end
floating = refl

point_first : number_kind (codes ".5f") ≡ Some (kinds.Float ends.F)
unfolding number_kind integer_of integer_in is_digit digit_value suffix_of float_of after_whole after_digits after_point float_end
point_first = refl

point_last : number_kind (codes "1.") ≡ Some (kinds.Float ends.Double)
unfolding number_kind integer_of integer_in is_digit digit_value suffix_of float_of after_whole after_digits after_point float_end
point_last = refl

two_points : number_kind (codes "1..2") ≡ None
unfolding number_kind integer_of integer_in is_digit digit_value suffix_of float_of after_whole after_digits after_point float_end
two_points = refl

-- ---- words and punctuators

renamed : word_kind (codes "__volatile__") ≡ kinds.Word mark.VolatileBoth
unfolding word_kind special_words
renamed = refl

prefix_of_keyword : word_kind (codes "in") ≡ kinds.Word mark.Plain
unfolding word_kind special_words
prefix_of_keyword = refl

no_arrow : punctuator_of C (codes "==>") ≡ None
unfolding punctuator_of punctuators singles pairs triples
no_arrow = refl

arrow : punctuator_of Metal (codes "==>") ≡ Some punctuator.LongArrow
unfolding punctuator_of punctuators singles pairs triples
arrow = refl

-- ---- literals

wide : is_literal (codes "L'x'") ≡ true
unfolding is_literal literal_len is_quote
wide = refl

no_empty_character : is_literal (codes "''") ≡ false
unfolding is_literal literal_len is_quote
no_empty_character = refl

escaped_quote : is_literal (codes "'\\''") ≡ true
unfolding is_literal literal_len is_quote
escaped_quote = refl

two_strings : is_literal (34 ∷ 34 ∷ 34 ∷ 34 ∷ []) ≡ false
unfolding is_literal literal_len is_quote
two_strings = refl

-- a string behind its opening quote: `a"b` ends at the second byte
closed_string : quoted 34 (codes "a\"b") ≡ Some 2
closed_string = refl

-- an escaped quote closes nothing
only_escaped_quote : quoted 34 (92 ∷ 34 ∷ []) ≡ None
only_escaped_quote = refl

behind_escaped_quote : quoted 34 (92 ∷ 34 ∷ 34 ∷ []) ≡ Some 3
behind_escaped_quote = refl

-- a line ends at its line feed, also behind a backslash
escaped_line_feed : quoted 34 (92 ∷ 10 ∷ 34 ∷ []) ≡ None
escaped_line_feed = refl

string_over_lines : quoted 34 (97 ∷ 10 ∷ 34 ∷ []) ≡ None
string_over_lines = refl

-- a backslash takes the carriage return, and the line feed behind it ends the line
escaped_carriage_return : quoted 34 (92 ∷ 13 ∷ 10 ∷ 34 ∷ []) ≡ None
escaped_carriage_return = refl

-- ---- markers

numbered_marker : marker_of (codes " 007 \"a\\\\b\" 1 3") ≡ Some (Renumbers 7 (Some (codes "a\\b")))
unfolding marker_of after_line_word numbered behind_number is_digit is_word_byte is_letter is_gap digit_value
numbered_marker = refl

line_marker : marker_of (codes "line\t5") ≡ Some (Renumbers 5 None)
unfolding marker_of after_line_word numbered behind_number is_digit is_word_byte is_letter is_gap digit_value
line_marker = refl

skipped_marker : marker_of (codes " pragma pack(1)") ≡ Some Skipped
unfolding marker_of after_line_word numbered behind_number is_digit is_word_byte is_letter is_gap digit_value
skipped_marker = refl

no_pragma : marker_of (codes "pragmax") ≡ None
unfolding marker_of after_line_word numbered behind_number is_digit is_word_byte is_letter is_gap digit_value
no_pragma = refl

no_flag : marker_of (codes " 1 \"a\"1") ≡ None
unfolding marker_of after_line_word numbered behind_number is_digit is_word_byte is_letter is_gap digit_value
no_flag = refl

-- what stands behind `pragma` is blank up to the end of the line, a carriage return too
pragma_and_return : marker_of (codes "pragma x" ++ (13 ∷ [])) ≡ Some Skipped
unfolding marker_of after_line_word numbered behind_number is_digit is_word_byte is_letter is_gap digit_value
pragma_and_return = refl

bare_pragma_and_return : marker_of (codes "pragma" ++ (13 ∷ [])) ≡ Some Skipped
unfolding marker_of after_line_word numbered behind_number is_digit is_word_byte is_letter is_gap digit_value
bare_pragma_and_return = refl

-- behind a file or a number it is none
file_and_return : marker_of (codes " 1 \"a\"" ++ (13 ∷ [])) ≡ None
unfolding marker_of after_line_word numbered behind_number is_digit is_word_byte is_letter is_gap digit_value
file_and_return = refl

close_marker : marker_of (codes "5\"q\"") ≡ Some (Renumbers 5 (Some (codes "q")))
unfolding marker_of after_line_word numbered behind_number is_digit is_word_byte is_letter is_gap digit_value
close_marker = refl

no_line_word : marker_of (codes "line5") ≡ None
unfolding marker_of after_line_word numbered behind_number is_digit is_word_byte is_letter is_gap digit_value
no_line_word = refl

escapes_in_name : unescaped (codes "a\\\\b\\\"c\\n") ≡ codes "a\\b\"c\\n"
escapes_in_name = refl

-- of three backslashes the first two are one, and the third stands for itself
three_backslashes : unescaped (92 ∷ 92 ∷ 92 ∷ []) ≡ 92 ∷ 92 ∷ []
three_backslashes = refl

-- ---- pieces

first_of_sum : cut C false (codes "a+++b") ≡ Some (Spelling (codes "a"))
unfolding cut is_blank spelling_at spelling_len literal_len word_len is_letter is_digit is_word_byte is_quote kind_of is_word
first_of_sum = refl

then_increment : cut C false (codes "+++b") ≡ Some (Spelling (codes "++"))
unfolding cut is_blank spelling_at spelling_len punctuator_len is_letter is_digit is_word_byte is_quote kind_of is_word is_number is_literal literal_len punctuator_of punctuators singles pairs triples
then_increment = refl

open_comment : cut C true (codes "/*/") ≡ None
unfolding cut is_blank comment_at
open_comment = refl

open_comment_fault : fault_at C true (codes "/*/") ≡ OpenText
unfolding fault_at
open_comment_fault = refl

hash_in_line : cut C false (codes "# 1") ≡ None
unfolding cut is_blank spelling_at spelling_len punctuator_len is_letter is_digit is_word_byte is_quote punctuator_of punctuators singles pairs triples
hash_in_line = refl

hash_in_line_fault : fault_at C false (codes "# 1") ≡ BadByte
unfolding fault_at spelling_fault is_quote is_digit
hash_in_line_fault = refl

-- ---- where a reading stands

-- a marker may stand behind blanks of its line
behind_gaps : (behind_all (beginning (codes "a.c")) (Space 32 ∷ Space 9 ∷ [])).first ≡ true
unfolding is_gap
behind_gaps = refl

-- but not behind a form feed, nor on the line on which a comment ends
behind_form_feed : (behind_all (beginning (codes "a.c")) (Space 12 ∷ [])).first ≡ false
unfolding is_gap
behind_form_feed = refl

behind_comment : (behind_all (beginning (codes "a.c")) (Comment (codes "/*" ++ (10 ∷ codes "*/")) ∷ [])).first ≡ false
unfolding is_gap
behind_comment = refl

line_behind_comment : (behind_all (beginning (codes "a.c")) (Comment (codes "/*" ++ (10 ∷ codes "*/")) ∷ [])).line ≡ 2
unfolding is_gap
line_behind_comment = refl

behind_line_comment : (behind_all (beginning (codes "a.c")) (LineComment (codes "x") ∷ Space 10 ∷ [])).first ≡ true
unfolding is_gap
behind_line_comment = refl

-- A blank, `# 3 "b"`, a line feed, and a blank: the blank is the first byte of line 3 of b
behind_marker : behind_all (beginning (codes "a.c")) (Space 32 ∷ MarkerLine (codes " 3 \"b\"") true ∷ Space 32 ∷ []) ≡ record { offset = 10; file = codes "b"; line = 3; column = 2; first = true }
unfolding is_gap marker_of after_line_word numbered behind_number is_digit is_word_byte is_letter digit_value
behind_marker = refl

-- ---- stripped words

abbrev a_token : TokenKind → Token
a_token kind = record { kind = kind; name = 0; start = 0; len = 1; line = 1; col = 1; source = 0; place = record { file = 0; token = 0 } }

abbrev left : Token
left = a_token (kinds.Punct punctuator.OpenParen)

abbrev right : Token
right = a_token (kinds.Punct punctuator.CloseParen)

abbrev x : Token
x = a_token (kinds.Word mark.Plain)

abbrev int : Token
int = a_token (kinds.Keyword keyword.Int)

abbrev asm : Token
asm = a_token (kinds.Word mark.AsmPlain)

abbrev attribute : Token
attribute = a_token (kinds.Word mark.AttributeBoth)

abbrev extension : Token
extension = a_token (kinds.Word mark.ExtensionBoth)

abbrev volatile : Token
volatile = a_token (kinds.Keyword keyword.Volatile)

nested_group : group_len (left ∷ x ∷ left ∷ right ∷ right ∷ x ∷ []) ≡ Some 5
unfolding group_len group_end
nested_group = refl

open_group : group_len (left ∷ left ∷ x ∷ right ∷ []) ≡ None
unfolding group_len group_end
open_group = refl

-- other brackets don't count
bracket_in_group : group_len (left ∷ a_token (kinds.Punct punctuator.OpenBracket) ∷ right ∷ []) ≡ Some 3
unfolding group_len group_end
bracket_in_group = refl

qualified_asm : asm_len (volatile ∷ a_token (kinds.Keyword keyword.Goto) ∷ left ∷ right ∷ []) ≡ Some 4
unfolding asm_len group_len group_end
qualified_asm = refl

dropped_attribute : dropped_with attribute.kind (left ∷ x ∷ right ∷ int ∷ []) ≡ Some 3
unfolding group_len group_end
dropped_attribute = refl

kept_word : dropped_with x.kind (left ∷ x ∷ right ∷ []) ≡ None
kept_word = refl

-- `asm volatile goto ( ) ;`
asm_dropped : stripped (asm ∷ volatile ∷ a_token (kinds.Keyword keyword.Goto) ∷ left ∷ right ∷ a_token (kinds.Punct punctuator.Semicolon) ∷ []) ≡ a_token (kinds.Punct punctuator.Semicolon) ∷ []
unfolding stripped_behind asm_len group_len group_end
asm_dropped = refl

-- `__volatile` isn't one of the qualifiers of `asm`, so `asm` is kept; by itself it is the keyword
asm_before_volatile : stripped (asm ∷ a_token (kinds.Word mark.Volatile) ∷ left ∷ right ∷ []) ≡ asm ∷ volatile ∷ left ∷ right ∷ []
unfolding stripped_behind asm_len group_len group_end
asm_before_volatile = refl

asm_before_const : stripped (asm ∷ a_token (kinds.Keyword keyword.Const) ∷ left ∷ right ∷ []) ≡ asm ∷ a_token (kinds.Keyword keyword.Const) ∷ left ∷ right ∷ []
unfolding stripped_behind asm_len group_len group_end
asm_before_const = refl

attribute_without_group : stripped (attribute ∷ int ∷ []) ≡ attribute ∷ int ∷ []
unfolding stripped_behind group_len group_end
attribute_without_group = refl

attribute_with_open_group : stripped (attribute ∷ left ∷ left ∷ x ∷ right ∷ []) ≡ attribute ∷ left ∷ left ∷ x ∷ right ∷ []
unfolding stripped_behind group_len group_end
attribute_with_open_group = refl

-- one group is dropped, not the next one
attribute_with_two_groups : stripped (attribute ∷ left ∷ x ∷ right ∷ left ∷ int ∷ right ∷ []) ≡ left ∷ int ∷ right ∷ []
unfolding stripped_behind group_len group_end
attribute_with_two_groups = refl

-- the group stands directly behind the word, also where what is between is dropped
extension_between : stripped (attribute ∷ extension ∷ left ∷ x ∷ right ∷ []) ≡ attribute ∷ left ∷ x ∷ right ∷ []
unfolding stripped_behind group_len group_end
extension_between = refl

-- ---- chunks

abbrev left_brace : Token
left_brace = a_token (kinds.Punct punctuator.OpenBrace)

abbrev right_brace : Token
right_brace = a_token (kinds.Punct punctuator.CloseBrace)

-- `s {` begins the body of a structure, `) {` that of a function
no_function_body : begins_body (x ∷ left_brace ∷ []) 1 ≡ false
no_function_body = refl

function_body : begins_body (right ∷ left_brace ∷ []) 1 ≡ true
function_body = refl

brace_first : begins_body (left_brace ∷ []) 0 ≡ false
brace_first = refl

-- the depth never falls below 0
no_depth : depth_at (right_brace ∷ int ∷ []) 1 ≡ 0
unfolding depth_at
no_depth = refl

-- `( } {`: any closing bracket takes back one level
other_bracket : depth_at (left ∷ right_brace ∷ left_brace ∷ x ∷ []) 3 ≡ 1
unfolding depth_at
other_bracket = refl
