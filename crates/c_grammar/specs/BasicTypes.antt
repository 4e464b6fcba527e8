-- The basic types (ISO 9899:1990, 6.1.2.5) and the words that they are written with (6.5.2): those of ISO 9899:1990 and 1999 in the
-- order of the standard, and then those of GNU C.
use Rattle.std.specs.Prelude.{List, [], ◌∷◌, map}
use Rattle.c_tree.specs.declared.keyword.Keyword.{Keyword}
use Rattle.c_tree.specs.declared.keyword.Keyword.TheVariants as words

-- The arithmetic types. An enumeration has the type int.
pub data Arithmetic : Type 0 where
  Boolean : Arithmetic
  Char : Arithmetic
  SignedChar : Arithmetic
  UnsignedChar : Arithmetic
  Short : Arithmetic
  UnsignedShort : Arithmetic
  Int : Arithmetic
  UnsignedInt : Arithmetic
  Long : Arithmetic
  UnsignedLong : Arithmetic
  LongLong : Arithmetic
  UnsignedLongLong : Arithmetic
  Int128 : Arithmetic
  UnsignedInt128 : Arithmetic
  Float32 : Arithmetic
  Float : Arithmetic
  Float32x : Arithmetic
  Float64 : Arithmetic
  Double : Arithmetic
  Float64x : Arithmetic
  LongDouble : Arithmetic
  Float128 : Arithmetic

pub data BasicType : Type 0 where
  Void : BasicType
  Arith : Arithmetic → BasicType
  VaList : BasicType

-- The lists of words, each with the type that it names. The words of a list may stand in any order.
abbrev pub basic_types : List (List Keyword × BasicType)
basic_types =
    (words.Void ∷ [], Void)
    ∷ (words.Char ∷ [], Arith Char)
    ∷ (words.Signed ∷ words.Char ∷ [], Arith SignedChar)
    ∷ (words.Unsigned ∷ words.Char ∷ [], Arith UnsignedChar)
    ∷ (words.Short ∷ [], Arith Short)
    ∷ (words.Signed ∷ words.Short ∷ [], Arith Short)
    ∷ (words.Short ∷ words.Int ∷ [], Arith Short)
    ∷ (words.Signed ∷ words.Short ∷ words.Int ∷ [], Arith Short)
    ∷ (words.Unsigned ∷ words.Short ∷ [], Arith UnsignedShort)
    ∷ (words.Unsigned ∷ words.Short ∷ words.Int ∷ [], Arith UnsignedShort)
    ∷ (words.Int ∷ [], Arith Int)
    ∷ (words.Signed ∷ [], Arith Int)
    ∷ (words.Signed ∷ words.Int ∷ [], Arith Int)
    ∷ (words.Unsigned ∷ [], Arith UnsignedInt)
    ∷ (words.Unsigned ∷ words.Int ∷ [], Arith UnsignedInt)
    ∷ (words.Long ∷ [], Arith Long)
    ∷ (words.Signed ∷ words.Long ∷ [], Arith Long)
    ∷ (words.Long ∷ words.Int ∷ [], Arith Long)
    ∷ (words.Signed ∷ words.Long ∷ words.Int ∷ [], Arith Long)
    ∷ (words.Unsigned ∷ words.Long ∷ [], Arith UnsignedLong)
    ∷ (words.Unsigned ∷ words.Long ∷ words.Int ∷ [], Arith UnsignedLong)
    ∷ (words.Long ∷ words.Long ∷ [], Arith LongLong)
    ∷ (words.Signed ∷ words.Long ∷ words.Long ∷ [], Arith LongLong)
    ∷ (words.Long ∷ words.Long ∷ words.Int ∷ [], Arith LongLong)
    ∷ (words.Signed ∷ words.Long ∷ words.Long ∷ words.Int ∷ [], Arith LongLong)
    ∷ (words.Unsigned ∷ words.Long ∷ words.Long ∷ [], Arith UnsignedLongLong)
    ∷ (words.Unsigned ∷ words.Long ∷ words.Long ∷ words.Int ∷ [], Arith UnsignedLongLong)
    ∷ (words.Float ∷ [], Arith Float)
    ∷ (words.Double ∷ [], Arith Double)
    ∷ (words.Long ∷ words.Double ∷ [], Arith LongDouble)
    ∷ (words.Bool ∷ [], Arith Boolean)
    ∷ (words.Int128 ∷ [], Arith Int128)
    ∷ (words.Signed ∷ words.Int128 ∷ [], Arith Int128)
    ∷ (words.Unsigned ∷ words.Int128 ∷ [], Arith UnsignedInt128)
    ∷ (words.Float32 ∷ [], Arith Float32)
    ∷ (words.Float32x ∷ [], Arith Float32x)
    ∷ (words.Float64 ∷ [], Arith Float64)
    ∷ (words.Float64x ∷ [], Arith Float64x)
    ∷ (words.Float128 ∷ [], Arith Float128)
    ∷ (words.GnuFloat128 ∷ [], Arith Float128)
    ∷ (words.BuiltinVaList ∷ [], VaList)
    ∷ []

-- the lists of words alone
abbrev pub basic_words : List (List Keyword)
basic_words = map (λ line. line.0) basic_types
