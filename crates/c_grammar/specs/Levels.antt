-- The levels of expressions (ISO 9899:1990, 6.3), from what binds tightest to what binds loosest: 0 is a postfix
-- expression, 1 a unary one, 2 a cast, 3 to 12 are those of the binary operators, 13 is a conditional expression, 14 an
-- assignment and 15 an expression with commas. A level takes all that the levels below it take.
use Rattle.std.specs.Prelude.{ℕ, Option, Some, None}
use Rattle.c_tree.specs.declared.operator.AssignOp.{AssignOp}
use Rattle.c_tree.specs.declared.operator.AssignOp.TheVariants as assign
use Rattle.c_tree.specs.declared.operator.BinaryOp.{BinaryOp}
use Rattle.c_tree.specs.declared.operator.BinaryOp.TheVariants as binary
use Rattle.c_tree.specs.declared.operator.UnaryOp.{UnaryOp}
use Rattle.c_tree.specs.declared.operator.UnaryOp.TheVariants as unary
use Rattle.c_tree.specs.declared.punctuator.Punctuator.TheVariants as marks
use Rattle.c_tree.specs.Symbol.{Symbol, Sign}
use Rattle.c_tree.specs.Syntax.{Syntax, Operation, OperationSyntax, Unary, SizeofType, Cast, Binary, Cond, Assign}

abbrev pub postfix_level : ℕ
postfix_level = 0

abbrev pub unary_level : ℕ
unary_level = 1

abbrev pub cast_level : ℕ
cast_level = 2

abbrev pub logical_or_level : ℕ
logical_or_level = 12

abbrev pub conditional_level : ℕ
conditional_level = 13

abbrev pub assignment_level : ℕ
assignment_level = 14

abbrev pub comma_level : ℕ
comma_level = 15

-- All binary operators associate to the left: the right operand stands below the operator's level.
abbrev pub level_of : BinaryOp → ℕ
level_of binary.Multiply = 3
level_of binary.Divide = 3
level_of binary.Remainder = 3
level_of binary.Add = 4
level_of binary.Subtract = 4
level_of binary.ShiftLeft = 5
level_of binary.ShiftRight = 5
level_of binary.Less = 6
level_of binary.Greater = 6
level_of binary.LessEqual = 6
level_of binary.GreaterEqual = 6
level_of binary.Equal = 7
level_of binary.NotEqual = 7
level_of binary.BitAnd = 8
level_of binary.BitXor = 9
level_of binary.BitOr = 10
level_of binary.LogAnd = 11
level_of binary.LogOr = logical_or_level
level_of binary.Comma = comma_level

-- the level at which the expression of an operator with one operand stands
abbrev pub unary_grade : UnaryOp → ℕ
unary_grade unary.PostInc = postfix_level
unary_grade unary.PostDec = postfix_level
unary_grade _ = unary_level

-- the level of its operand
abbrev pub operand_level : UnaryOp → ℕ
operand_level unary.PostInc = postfix_level
operand_level unary.PostDec = postfix_level
operand_level unary.PreInc = unary_level
operand_level unary.PreDec = unary_level
operand_level unary.Sizeof = unary_level
operand_level _ = cast_level

-- the level at which an expression stands
abbrev pub operation_grade : OperationSyntax → ℕ
operation_grade (Unary op operand) = unary_grade op
operation_grade (SizeofType of) = unary_level
operation_grade (Cast to operand) = cast_level
operation_grade (Binary op left right) = level_of op
operation_grade (Cond condition then otherwise) = conditional_level
operation_grade (Assign op left right) = assignment_level
operation_grade _ = postfix_level

abbrev pub grade : Syntax → ℕ
grade (Operation k) = operation_grade k
grade _ = postfix_level

-- The operator that a symbol is, between two operands, in an assignment, or before its operand.
abbrev pub binary_of : Symbol → Option BinaryOp
binary_of (Sign marks.Star) = Some binary.Multiply
binary_of (Sign marks.Slash) = Some binary.Divide
binary_of (Sign marks.Percent) = Some binary.Remainder
binary_of (Sign marks.Plus) = Some binary.Add
binary_of (Sign marks.Minus) = Some binary.Subtract
binary_of (Sign marks.ShiftLeft) = Some binary.ShiftLeft
binary_of (Sign marks.ShiftRight) = Some binary.ShiftRight
binary_of (Sign marks.Less) = Some binary.Less
binary_of (Sign marks.Greater) = Some binary.Greater
binary_of (Sign marks.LessEqual) = Some binary.LessEqual
binary_of (Sign marks.GreaterEqual) = Some binary.GreaterEqual
binary_of (Sign marks.Equal) = Some binary.Equal
binary_of (Sign marks.NotEqual) = Some binary.NotEqual
binary_of (Sign marks.Ampersand) = Some binary.BitAnd
binary_of (Sign marks.Caret) = Some binary.BitXor
binary_of (Sign marks.Bar) = Some binary.BitOr
binary_of (Sign marks.AndAnd) = Some binary.LogAnd
binary_of (Sign marks.OrOr) = Some binary.LogOr
binary_of (Sign marks.Comma) = Some binary.Comma
binary_of _ = None

abbrev pub assign_of : Symbol → Option AssignOp
assign_of (Sign marks.Assign) = Some assign.Plain
assign_of (Sign marks.StarAssign) = Some assign.Multiply
assign_of (Sign marks.SlashAssign) = Some assign.Divide
assign_of (Sign marks.PercentAssign) = Some assign.Remainder
assign_of (Sign marks.PlusAssign) = Some assign.Add
assign_of (Sign marks.MinusAssign) = Some assign.Subtract
assign_of (Sign marks.ShiftLeftAssign) = Some assign.ShiftLeft
assign_of (Sign marks.ShiftRightAssign) = Some assign.ShiftRight
assign_of (Sign marks.AmpersandAssign) = Some assign.BitAnd
assign_of (Sign marks.CaretAssign) = Some assign.BitXor
assign_of (Sign marks.BarAssign) = Some assign.BitOr
assign_of _ = None

-- `sizeof` isn't among them, since it also takes a type name
abbrev pub prefix_of : Symbol → Option UnaryOp
prefix_of (Sign marks.Increment) = Some unary.PreInc
prefix_of (Sign marks.Decrement) = Some unary.PreDec
prefix_of (Sign marks.Ampersand) = Some unary.AddressOf
prefix_of (Sign marks.Star) = Some unary.Deref
prefix_of (Sign marks.Plus) = Some unary.Plus
prefix_of (Sign marks.Minus) = Some unary.Minus
prefix_of (Sign marks.Tilde) = Some unary.BitNot
prefix_of (Sign marks.Exclamation) = Some unary.Not
prefix_of _ = None
