-- Equal to `≡` of operators, words and types, by their numbers.
-- Operators, the words of structures and unions, and arithmetic types by number, in the order of their types.
use Rattle.std.specs.Prelude.{ℕ}
use Rattle.c_tree.specs.declared.operator.AssignOp.{AssignOp}
use Rattle.c_tree.specs.declared.operator.AssignOp.TheVariants as assign
use Rattle.c_tree.specs.declared.operator.BinaryOp.{BinaryOp}
use Rattle.c_tree.specs.declared.operator.BinaryOp.TheVariants as binary
use Rattle.c_tree.specs.declared.operator.StructOrUnion.{StructOrUnion}
use Rattle.c_tree.specs.declared.operator.StructOrUnion.TheVariants as which_word
use Rattle.c_tree.specs.declared.operator.UnaryOp.{UnaryOp}
use Rattle.c_tree.specs.declared.operator.UnaryOp.TheVariants as unary
use Rattle.type_rules.specs.Arithmetic.{Arithmetic}
use Rattle.type_rules.specs.Arithmetic as kind

abbrev pub unary_code : UnaryOp → ℕ
unary_code unary.PostInc = 0
unary_code unary.PostDec = 1
unary_code unary.PreInc = 2
unary_code unary.PreDec = 3
unary_code unary.AddressOf = 4
unary_code unary.Deref = 5
unary_code unary.Plus = 6
unary_code unary.Minus = 7
unary_code unary.BitNot = 8
unary_code unary.Not = 9
unary_code unary.Sizeof = 10

abbrev pub binary_code : BinaryOp → ℕ
binary_code binary.Multiply = 0
binary_code binary.Divide = 1
binary_code binary.Remainder = 2
binary_code binary.Add = 3
binary_code binary.Subtract = 4
binary_code binary.ShiftLeft = 5
binary_code binary.ShiftRight = 6
binary_code binary.Less = 7
binary_code binary.Greater = 8
binary_code binary.LessEqual = 9
binary_code binary.GreaterEqual = 10
binary_code binary.Equal = 11
binary_code binary.NotEqual = 12
binary_code binary.BitAnd = 13
binary_code binary.BitXor = 14
binary_code binary.BitOr = 15
binary_code binary.LogAnd = 16
binary_code binary.LogOr = 17
binary_code binary.Comma = 18

abbrev pub assign_code : AssignOp → ℕ
assign_code assign.Plain = 0
assign_code assign.Multiply = 1
assign_code assign.Divide = 2
assign_code assign.Remainder = 3
assign_code assign.Add = 4
assign_code assign.Subtract = 5
assign_code assign.ShiftLeft = 6
assign_code assign.ShiftRight = 7
assign_code assign.BitAnd = 8
assign_code assign.BitXor = 9
assign_code assign.BitOr = 10

abbrev pub which_code : StructOrUnion → ℕ
which_code which_word.Struct = 0
which_code which_word.Union = 1

abbrev pub arithmetic_code : Arithmetic → ℕ
arithmetic_code kind.Boolean = 0
arithmetic_code kind.Char = 1
arithmetic_code kind.SignedChar = 2
arithmetic_code kind.UnsignedChar = 3
arithmetic_code kind.Short = 4
arithmetic_code kind.UnsignedShort = 5
arithmetic_code kind.Int = 6
arithmetic_code kind.UnsignedInt = 7
arithmetic_code kind.Long = 8
arithmetic_code kind.UnsignedLong = 9
arithmetic_code kind.LongLong = 10
arithmetic_code kind.UnsignedLongLong = 11
arithmetic_code kind.Int128 = 12
arithmetic_code kind.UnsignedInt128 = 13
arithmetic_code kind.Float32 = 14
arithmetic_code kind.Float = 15
arithmetic_code kind.Float32x = 16
arithmetic_code kind.Float64 = 17
arithmetic_code kind.Double = 18
arithmetic_code kind.Float64x = 19
arithmetic_code kind.LongDouble = 20
arithmetic_code kind.Float128 = 21
