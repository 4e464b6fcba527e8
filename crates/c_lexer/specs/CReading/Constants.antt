-- The constants: what a number says (ISO 9899:1990, 6.1.3.1 and 6.1.3.2), of integers up to 64 bits.
use Rattle.std.specs.Prelude.{ℕ, Bool, true, false, ◌+◌, ◌-◌, ◌*◌, ◌^◌, nat_le, ◌==◌, ◌&&◌, ◌||◌, List, [], ◌∷◌, take, drop, Option, None, Some, option_map, option_and_then, if◌then◌else◌}
use Rattle.std.specs.List.{prefix_len}
use Rattle.c_tree.specs.declared.token.TokenKind.{TokenKind}
use Rattle.c_tree.specs.declared.token.TokenKind.TheVariants as kinds
use Rattle.c_tree.specs.declared.token.FloatEnd.{FloatEnd}
use Rattle.c_tree.specs.declared.token.FloatEnd.TheVariants as ends
use Rattle.c_lexer.specs.CReading.Bytes.{within, is_digit}

-- the digits of octal, decimal and hexadecimal constants
unfoldable pub is_octal : ℕ → Bool
is_octal b = within 48 55 b

unfoldable pub is_hex : ℕ → Bool
is_hex b = is_digit b || (within 97 102 b || within 65 70 b)

-- the value of a digit: `0` is 48, `A` is 65, `a` is 97
unfoldable pub digit_value : ℕ → ℕ
digit_value b = if is_digit b then b - 48 else (if nat_le 97 b then b - 87 else b - 55)

-- the value of digits behind others that have this value
abbrev pub value_after : ℕ → ℕ → List ℕ → ℕ
value_after base before [] = before
value_after base before (d ∷ ds) = value_after base (before * base + digit_value d) ds

-- the value of digits, if it is at most this
abbrev pub value_up_to : ℕ → ℕ → List ℕ → Option ℕ
value_up_to most base ds = if nat_le (value_after base 0 ds) most then Some (value_after base 0 ds) else None

abbrev pub is_u : ℕ → Bool
is_u b = (b == 117) || (b == 85)

abbrev pub is_l : ℕ → Bool
is_l b = (b == 108) || (b == 76)

-- whether a suffix has a `u` or `U`, and how many `l` or `L`
abbrev pub Suffix : Type 0
Suffix = Bool × ℕ

-- at most one of `u U` and at most one of `l L ll LL`, in either order
unfoldable pub suffix_of : List ℕ → Option Suffix
suffix_of [] = Some (false, 0)
suffix_of (a ∷ []) = if is_u a then Some (true, 0) else (if is_l a then Some (false, 1) else None)
suffix_of (a ∷ b ∷ []) =
    if (is_u a && is_l b) || (is_l a && is_u b) then Some (true, 1) else (if is_l a && (b == a) then Some (false, 2) else None)
suffix_of (a ∷ b ∷ c ∷ []) =
    if (is_u a && (is_l b && (c == b))) || (is_l a && ((b == a) && is_u c)) then Some (true, 2) else None
suffix_of (a ∷ b ∷ c ∷ _) = None

-- an integer of this value, with this suffix behind its digits
abbrev pub integer_with : Bool → List ℕ → ℕ → Option TokenKind
integer_with decimal suffix value = option_map (λ s. kinds.Int value decimal s.0 s.1) (suffix_of suffix)

-- digits of a base and a suffix, of a value of at most 2^64 - 1
unfoldable pub integer_in : (ℕ → Bool) → ℕ → Bool → List ℕ → Option TokenKind
integer_in is base decimal text =
    option_and_then (integer_with decimal (drop (prefix_len is text) text)) (value_up_to (2 ^ 64 - 1) base (take (prefix_len is text) text))

-- hexadecimal behind `0x` or `0X`, with at least one digit
unfoldable pub hexadecimal : List ℕ → Option TokenKind
hexadecimal [] = None
hexadecimal (d ∷ ds) = if is_hex d then integer_in is_hex 16 false (d ∷ ds) else None

-- decimal without a leading 0, octal with one, or hexadecimal
unfoldable pub integer_of : List ℕ → Option TokenKind
integer_of [] = None
integer_of (a ∷ []) = if a == 48 then integer_in is_octal 8 false (a ∷ []) else integer_in is_digit 10 true (a ∷ [])
integer_of (a ∷ b ∷ rest) =
    if a == 48 then (if (b == 120) || (b == 88) then hexadecimal rest else integer_in is_octal 8 false (a ∷ b ∷ rest))
    else integer_in is_digit 10 true (a ∷ b ∷ rest)

-- what follows the digits in front
unfoldable pub after_digits : List ℕ → List ℕ
after_digits text = drop (prefix_len is_digit text) text

-- at most one of `f F l L`
unfoldable pub float_end : List ℕ → Option FloatEnd
float_end [] = Some ends.Double
float_end (a ∷ []) = if (a == 102) || (a == 70) then Some ends.F else (if is_l a then Some ends.L else None)
float_end (a ∷ b ∷ _) = None

-- a sign in front may stand
abbrev pub after_sign : List ℕ → List ℕ
after_sign [] = []
after_sign (a ∷ rest) = if (a == 43) || (a == 45) then rest else a ∷ rest

-- the digits of an exponent, behind its `e` and its sign, and what ends the constant
unfoldable pub exponent_digits : List ℕ → Option FloatEnd
exponent_digits [] = None
exponent_digits (d ∷ ds) = if is_digit d then float_end (after_digits (d ∷ ds)) else None

abbrev pub is_e : ℕ → Bool
is_e b = (b == 101) || (b == 69)

-- an exponent, behind the digits
unfoldable pub exponent : List ℕ → Option FloatEnd
exponent [] = None
exponent (a ∷ rest) = if is_e a then exponent_digits (after_sign rest) else None

-- behind the digits that follow the point: an exponent or none
unfoldable pub after_point : List ℕ → Option FloatEnd
after_point [] = float_end []
after_point (a ∷ rest) = if is_e a then exponent_digits (after_sign rest) else float_end (a ∷ rest)

-- behind the digits in front: a point and digits, or an exponent, or both
unfoldable pub after_whole : List ℕ → Option FloatEnd
after_whole [] = None
after_whole (a ∷ rest) = if a == 46 then after_point (after_digits rest) else exponent (a ∷ rest)

-- A decimal floating constant. It is read of a number, which has a digit in front or behind its point.
unfoldable pub float_of : List ℕ → Option FloatEnd
float_of text = after_whole (after_digits text)

abbrev pub integer_or_float : Option TokenKind → Option FloatEnd → Option TokenKind
integer_or_float (Some kind) _ = Some kind
integer_or_float None end = option_map kinds.Float end

-- what a number says, if it says anything
unfoldable pub number_kind : List ℕ → Option TokenKind
number_kind text = integer_or_float (integer_of text) (float_of text)
