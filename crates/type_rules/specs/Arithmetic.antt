-- What becomes of the arithmetic types in operators (ISO 9899:1990, 6.2.1). The widths are those of a machine whose int has 32 bits and whose long and long long have 64.
use Rattle.std.specs.Prelude.{ℕ, ◌-◌, ◌^◌, Bool, true, false, cond, not, ◌&&◌, nat_lt}
pub use Rattle.c_grammar.specs.BasicTypes.{Arithmetic, Boolean, Char, SignedChar, UnsignedChar, Short, UnsignedShort, Int, UnsignedInt, Long, UnsignedLong, LongLong, UnsignedLongLong, Int128, UnsignedInt128, Float32, Float, Float32x, Float64, Double, Float64x, LongDouble, Float128}

-- The order of the floating types, in which the later of two operands decides. It is 0 for an integer type.
abbrev pub float_rank : Arithmetic → ℕ
float_rank Float32 = 1
float_rank Float = 2
float_rank Float32x = 3
float_rank Float64 = 4
float_rank Double = 5
float_rank Float64x = 6
float_rank LongDouble = 7
float_rank Float128 = 8
float_rank _ = 0

abbrev pub is_floating : Arithmetic → Bool
is_floating k = nat_lt 0 (float_rank k)

-- The order of the integer types. A floating type stands above them.
abbrev pub rank : Arithmetic → ℕ
rank Boolean = 0
rank Char = 1
rank SignedChar = 1
rank UnsignedChar = 1
rank Short = 2
rank UnsignedShort = 2
rank Int = 3
rank UnsignedInt = 3
rank Long = 4
rank UnsignedLong = 4
rank LongLong = 5
rank UnsignedLongLong = 5
rank Int128 = 6
rank UnsignedInt128 = 6
rank _ = 7

abbrev pub is_unsigned : Arithmetic → Bool
is_unsigned Boolean = true
is_unsigned UnsignedChar = true
is_unsigned UnsignedShort = true
is_unsigned UnsignedInt = true
is_unsigned UnsignedLong = true
is_unsigned UnsignedLongLong = true
is_unsigned UnsignedInt128 = true
is_unsigned _ = false

-- the number of bits of an integer type
abbrev pub bits : Arithmetic → ℕ
bits Boolean = 1
bits Char = 8
bits SignedChar = 8
bits UnsignedChar = 8
bits Short = 16
bits UnsignedShort = 16
bits Int = 32
bits UnsignedInt = 32
bits Long = 64
bits UnsignedLong = 64
bits LongLong = 64
bits UnsignedLongLong = 64
bits Int128 = 128
bits UnsignedInt128 = 128
bits _ = 0

-- the unsigned type of the same rank
abbrev pub to_unsigned : Arithmetic → Arithmetic
to_unsigned Int = UnsignedInt
to_unsigned Long = UnsignedLong
to_unsigned LongLong = UnsignedLongLong
to_unsigned Int128 = UnsignedInt128
to_unsigned k = k

-- what ranks below int becomes int (6.2.1.1)
abbrev pub promote : Arithmetic → Arithmetic
promote k = cond (nat_lt (rank k) (rank Int)) Int k

-- Two promoted integer types, the first of the higher or the same rank. It decides; but where the second alone is unsigned
-- and has as many bits, the answer is unsigned.
abbrev pub joined : Arithmetic → Arithmetic → Arithmetic
joined high low = cond (is_unsigned low && not (is_unsigned high) && not (nat_lt (bits low) (bits high))) (to_unsigned high) high

abbrev pub convert_integers : Arithmetic → Arithmetic → Arithmetic
convert_integers k l = cond (nat_lt (rank k) (rank l)) (joined l k) (joined k l)

abbrev pub convert_floats : Arithmetic → Arithmetic → Arithmetic
convert_floats k l = cond (nat_lt (float_rank k) (float_rank l)) l k

-- the usual arithmetic conversions (6.2.1.5)
abbrev pub convert : Arithmetic → Arithmetic → Arithmetic
convert k l = cond (not (is_floating k) && not (is_floating l)) (convert_integers (promote k) (promote l)) (convert_floats k l)

-- the value is one of this integer type
abbrev pub holds : Arithmetic → ℕ → Bool
holds k value = nat_lt value (2 ^ (bits k - cond (is_unsigned k) 0 1))
