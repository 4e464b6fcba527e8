-- The type that a type of the program is.
use Rattle.type_rules.specs.Arithmetic as kind
use Rattle.type_rules.specs.Types.{CType, Void, Arith, VaList, Pointer, Array, Func, Struct, Union}
use Rattle.type_values.specs.declared.arithmetic.Arithmetic.{Arithmetic}
use Rattle.type_values.specs.declared.arithmetic.Arithmetic.TheVariants as kinds
use Rattle.type_values.specs.declared.types.Ty as types

abbrev pub arithmetic_of : Arithmetic → kind.Arithmetic
arithmetic_of kinds.Boolean = kind.Boolean
arithmetic_of kinds.Char = kind.Char
arithmetic_of kinds.SignedChar = kind.SignedChar
arithmetic_of kinds.UnsignedChar = kind.UnsignedChar
arithmetic_of kinds.Short = kind.Short
arithmetic_of kinds.UnsignedShort = kind.UnsignedShort
arithmetic_of kinds.Int = kind.Int
arithmetic_of kinds.UnsignedInt = kind.UnsignedInt
arithmetic_of kinds.Long = kind.Long
arithmetic_of kinds.UnsignedLong = kind.UnsignedLong
arithmetic_of kinds.LongLong = kind.LongLong
arithmetic_of kinds.UnsignedLongLong = kind.UnsignedLongLong
arithmetic_of kinds.Int128 = kind.Int128
arithmetic_of kinds.UnsignedInt128 = kind.UnsignedInt128
arithmetic_of kinds.Float32 = kind.Float32
arithmetic_of kinds.Float = kind.Float
arithmetic_of kinds.Float32x = kind.Float32x
arithmetic_of kinds.Float64 = kind.Float64
arithmetic_of kinds.Double = kind.Double
arithmetic_of kinds.Float64x = kind.Float64x
arithmetic_of kinds.LongDouble = kind.LongDouble
arithmetic_of kinds.Float128 = kind.Float128

abbrev pub ctype_of : types.Ty → CType
ctype_of types.Void = Void
ctype_of (types.Arith k) = Arith (arithmetic_of k)
ctype_of types.VaList = VaList
ctype_of (types.Pointer' r t) = Pointer (ctype_of t)
ctype_of (types.Array' r t) = Array (ctype_of t)
ctype_of (types.Func' r t) = Func (ctype_of t)
ctype_of (types.Struct n) = Struct n
ctype_of (types.Union n) = Union n
