-- Types of constants and strings (ISO 9899:1990, 6.1.3, 6.1.4).
use Rattle.std.specs.Prelude.{ℕ, zero, suc, Bool, false, cond, ◌||◌, List, [], ◌∷◌}
use Rattle.c_tree.specs.declared.token.FloatEnd.{FloatEnd}
use Rattle.c_tree.specs.declared.token.FloatEnd.TheVariants as ends
use Rattle.c_tree.specs.declared.token.Token.{Token}
use Rattle.c_tree.specs.declared.token.TokenKind.{TokenKind}
use Rattle.c_tree.specs.declared.token.TokenKind.TheVariants as kinds
use Rattle.type_rules.specs.Arithmetic.{Arithmetic, Char, Int, UnsignedInt, Long, UnsignedLong, LongLong, UnsignedLongLong, Float, Double, LongDouble, holds}
use Rattle.type_rules.specs.Types.{CType, Void, Arith, Array, int}

-- The types that an integer constant may have, by whether it is decimal, whether it has `u`, and its number of `l` (6.1.3.2).
abbrev pub integer_types : Bool → Bool → ℕ → List Arithmetic
integer_types decimal unsigned zero =
    cond unsigned (UnsignedInt ∷ UnsignedLong ∷ [])
    (cond decimal (Int ∷ Long ∷ UnsignedLong ∷ []) (Int ∷ UnsignedInt ∷ Long ∷ UnsignedLong ∷ []))
integer_types decimal unsigned (suc zero) = cond unsigned (UnsignedLong ∷ []) (Long ∷ UnsignedLong ∷ [])
integer_types decimal unsigned (suc (suc n)) = cond unsigned (UnsignedLongLong ∷ []) (LongLong ∷ UnsignedLongLong ∷ [])

-- The first that holds the value. The last one holds each value that a constant may have.
abbrev pub first_holding : ℕ → List Arithmetic → Arithmetic
first_holding value [] = UnsignedLong
first_holding value (k ∷ ks) = cond (holds k value) k (first_holding value ks)

abbrev pub float_type : FloatEnd → Arithmetic
float_type ends.Double = Double
float_type ends.F = Float
float_type ends.L = LongDouble

abbrev pub constant_type : TokenKind → CType
constant_type (kinds.Int value decimal unsigned longs) = Arith (first_holding value (integer_types decimal unsigned longs))
constant_type (kinds.Float end) = Arith (float_type end)
constant_type (kinds.Char wide) = int
constant_type _ = Void

abbrev pub is_wide : TokenKind → Bool
is_wide (kinds.Str wide) = wide
is_wide _ = false

-- one of the adjacent literals is wide
abbrev pub any_wide : List Token → Bool
any_wide [] = false
any_wide (t ∷ ts) = is_wide t.kind || any_wide ts

abbrev pub string_type : List Token → CType
string_type literals = Array (Arith (cond (any_wide literals) Int Char))
