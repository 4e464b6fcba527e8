-- Each number of an operator, word or type is that of one.
use Rattle.std.proofs.Common.{◌≡◌, ℕ, zero, suc, refl, ◌∙◌, sym, ap, nat_eq, true, arith}
use Rattle.c_tree.specs.declared.operator.AssignOp.{AssignOp}
use Rattle.c_tree.specs.declared.operator.AssignOp.TheVariants as assign
use Rattle.c_tree.specs.declared.operator.BinaryOp.{BinaryOp}
use Rattle.c_tree.specs.declared.operator.BinaryOp.TheVariants as binary
use Rattle.c_tree.specs.declared.operator.StructOrUnion.{StructOrUnion}
use Rattle.c_tree.specs.declared.operator.StructOrUnion.TheVariants as which_word
use Rattle.c_tree.specs.declared.operator.UnaryOp.{UnaryOp}
use Rattle.c_tree.specs.declared.operator.UnaryOp.TheVariants as unary
use Rattle.type_rules.specs.Arithmetic.{Arithmetic}
use Rattle.type_rules.specs.Arithmetic as kind
use Rattle.hole_matching.specs.Ways.Codes.{unary_code, binary_code, assign_code, which_code, arithmetic_code}

number-same : (n m : ℕ) → nat_eq n m ≡ true → n ≡ m
number-same n m h = grind arith

number-itself : (n : ℕ) → nat_eq n n ≡ true
number-itself n = grind arith

-- what has this number
abbrev unary_at : ℕ → UnaryOp
unary_at zero = unary.PostInc
unary_at (suc zero) = unary.PostDec
unary_at (suc (suc zero)) = unary.PreInc
unary_at (suc (suc (suc zero))) = unary.PreDec
unary_at (suc (suc (suc (suc zero)))) = unary.AddressOf
unary_at (suc (suc (suc (suc (suc zero))))) = unary.Deref
unary_at (suc (suc (suc (suc (suc (suc zero)))))) = unary.Plus
unary_at (suc (suc (suc (suc (suc (suc (suc zero))))))) = unary.Minus
unary_at (suc (suc (suc (suc (suc (suc (suc (suc zero)))))))) = unary.BitNot
unary_at (suc (suc (suc (suc (suc (suc (suc (suc (suc zero))))))))) = unary.Not
unary_at _ = unary.Sizeof

unary-back : (a : UnaryOp) → unary_at (unary_code a) ≡ a
unary-back unary.PostInc = refl
unary-back unary.PostDec = refl
unary-back unary.PreInc = refl
unary-back unary.PreDec = refl
unary-back unary.AddressOf = refl
unary-back unary.Deref = refl
unary-back unary.Plus = refl
unary-back unary.Minus = refl
unary-back unary.BitNot = refl
unary-back unary.Not = refl
unary-back unary.Sizeof = refl

pub unary-same : (a b : UnaryOp) → nat_eq (unary_code a) (unary_code b) ≡ true → a ≡ b
unary-same a b h = sym (unary-back a) ∙ ap unary_at (number-same (unary_code a) (unary_code b) h) ∙ unary-back b

-- what has this number
abbrev binary_at : ℕ → BinaryOp
binary_at zero = binary.Multiply
binary_at (suc zero) = binary.Divide
binary_at (suc (suc zero)) = binary.Remainder
binary_at (suc (suc (suc zero))) = binary.Add
binary_at (suc (suc (suc (suc zero)))) = binary.Subtract
binary_at (suc (suc (suc (suc (suc zero))))) = binary.ShiftLeft
binary_at (suc (suc (suc (suc (suc (suc zero)))))) = binary.ShiftRight
binary_at (suc (suc (suc (suc (suc (suc (suc zero))))))) = binary.Less
binary_at (suc (suc (suc (suc (suc (suc (suc (suc zero)))))))) = binary.Greater
binary_at (suc (suc (suc (suc (suc (suc (suc (suc (suc zero))))))))) = binary.LessEqual
binary_at (suc (suc (suc (suc (suc (suc (suc (suc (suc (suc zero)))))))))) = binary.GreaterEqual
binary_at (suc (suc (suc (suc (suc (suc (suc (suc (suc (suc (suc zero))))))))))) = binary.Equal
binary_at (suc (suc (suc (suc (suc (suc (suc (suc (suc (suc (suc (suc zero)))))))))))) = binary.NotEqual
binary_at (suc (suc (suc (suc (suc (suc (suc (suc (suc (suc (suc (suc (suc zero))))))))))))) = binary.BitAnd
binary_at (suc (suc (suc (suc (suc (suc (suc (suc (suc (suc (suc (suc (suc (suc zero)))))))))))))) = binary.BitXor
binary_at (suc (suc (suc (suc (suc (suc (suc (suc (suc (suc (suc (suc (suc (suc (suc zero))))))))))))))) = binary.BitOr
binary_at (suc (suc (suc (suc (suc (suc (suc (suc (suc (suc (suc (suc (suc (suc (suc (suc zero)))))))))))))))) = binary.LogAnd
binary_at (suc (suc (suc (suc (suc (suc (suc (suc (suc (suc (suc (suc (suc (suc (suc (suc (suc zero))))))))))))))))) = binary.LogOr
binary_at _ = binary.Comma

binary-back : (a : BinaryOp) → binary_at (binary_code a) ≡ a
binary-back binary.Multiply = refl
binary-back binary.Divide = refl
binary-back binary.Remainder = refl
binary-back binary.Add = refl
binary-back binary.Subtract = refl
binary-back binary.ShiftLeft = refl
binary-back binary.ShiftRight = refl
binary-back binary.Less = refl
binary-back binary.Greater = refl
binary-back binary.LessEqual = refl
binary-back binary.GreaterEqual = refl
binary-back binary.Equal = refl
binary-back binary.NotEqual = refl
binary-back binary.BitAnd = refl
binary-back binary.BitXor = refl
binary-back binary.BitOr = refl
binary-back binary.LogAnd = refl
binary-back binary.LogOr = refl
binary-back binary.Comma = refl

pub binary-same : (a b : BinaryOp) → nat_eq (binary_code a) (binary_code b) ≡ true → a ≡ b
binary-same a b h = sym (binary-back a) ∙ ap binary_at (number-same (binary_code a) (binary_code b) h) ∙ binary-back b

-- what has this number
abbrev assign_at : ℕ → AssignOp
assign_at zero = assign.Plain
assign_at (suc zero) = assign.Multiply
assign_at (suc (suc zero)) = assign.Divide
assign_at (suc (suc (suc zero))) = assign.Remainder
assign_at (suc (suc (suc (suc zero)))) = assign.Add
assign_at (suc (suc (suc (suc (suc zero))))) = assign.Subtract
assign_at (suc (suc (suc (suc (suc (suc zero)))))) = assign.ShiftLeft
assign_at (suc (suc (suc (suc (suc (suc (suc zero))))))) = assign.ShiftRight
assign_at (suc (suc (suc (suc (suc (suc (suc (suc zero)))))))) = assign.BitAnd
assign_at (suc (suc (suc (suc (suc (suc (suc (suc (suc zero))))))))) = assign.BitXor
assign_at _ = assign.BitOr

assign-back : (a : AssignOp) → assign_at (assign_code a) ≡ a
assign-back assign.Plain = refl
assign-back assign.Multiply = refl
assign-back assign.Divide = refl
assign-back assign.Remainder = refl
assign-back assign.Add = refl
assign-back assign.Subtract = refl
assign-back assign.ShiftLeft = refl
assign-back assign.ShiftRight = refl
assign-back assign.BitAnd = refl
assign-back assign.BitXor = refl
assign-back assign.BitOr = refl

pub assign-same : (a b : AssignOp) → nat_eq (assign_code a) (assign_code b) ≡ true → a ≡ b
assign-same a b h = sym (assign-back a) ∙ ap assign_at (number-same (assign_code a) (assign_code b) h) ∙ assign-back b

-- what has this number
abbrev which_at : ℕ → StructOrUnion
which_at zero = which_word.Struct
which_at _ = which_word.Union

which-back : (a : StructOrUnion) → which_at (which_code a) ≡ a
which-back which_word.Struct = refl
which-back which_word.Union = refl

pub which-same : (a b : StructOrUnion) → nat_eq (which_code a) (which_code b) ≡ true → a ≡ b
which-same a b h = sym (which-back a) ∙ ap which_at (number-same (which_code a) (which_code b) h) ∙ which-back b

-- what has this number
abbrev arithmetic_at : ℕ → Arithmetic
arithmetic_at zero = kind.Boolean
arithmetic_at (suc zero) = kind.Char
arithmetic_at (suc (suc zero)) = kind.SignedChar
arithmetic_at (suc (suc (suc zero))) = kind.UnsignedChar
arithmetic_at (suc (suc (suc (suc zero)))) = kind.Short
arithmetic_at (suc (suc (suc (suc (suc zero))))) = kind.UnsignedShort
arithmetic_at (suc (suc (suc (suc (suc (suc zero)))))) = kind.Int
arithmetic_at (suc (suc (suc (suc (suc (suc (suc zero))))))) = kind.UnsignedInt
arithmetic_at (suc (suc (suc (suc (suc (suc (suc (suc zero)))))))) = kind.Long
arithmetic_at (suc (suc (suc (suc (suc (suc (suc (suc (suc zero))))))))) = kind.UnsignedLong
arithmetic_at (suc (suc (suc (suc (suc (suc (suc (suc (suc (suc zero)))))))))) = kind.LongLong
arithmetic_at (suc (suc (suc (suc (suc (suc (suc (suc (suc (suc (suc zero))))))))))) = kind.UnsignedLongLong
arithmetic_at (suc (suc (suc (suc (suc (suc (suc (suc (suc (suc (suc (suc zero)))))))))))) = kind.Int128
arithmetic_at (suc (suc (suc (suc (suc (suc (suc (suc (suc (suc (suc (suc (suc zero))))))))))))) = kind.UnsignedInt128
arithmetic_at (suc (suc (suc (suc (suc (suc (suc (suc (suc (suc (suc (suc (suc (suc zero)))))))))))))) = kind.Float32
arithmetic_at (suc (suc (suc (suc (suc (suc (suc (suc (suc (suc (suc (suc (suc (suc (suc zero))))))))))))))) = kind.Float
arithmetic_at (suc (suc (suc (suc (suc (suc (suc (suc (suc (suc (suc (suc (suc (suc (suc (suc zero)))))))))))))))) = kind.Float32x
arithmetic_at (suc (suc (suc (suc (suc (suc (suc (suc (suc (suc (suc (suc (suc (suc (suc (suc (suc zero))))))))))))))))) = kind.Float64
arithmetic_at (suc (suc (suc (suc (suc (suc (suc (suc (suc (suc (suc (suc (suc (suc (suc (suc (suc (suc zero)))))))))))))))))) = kind.Double
arithmetic_at (suc (suc (suc (suc (suc (suc (suc (suc (suc (suc (suc (suc (suc (suc (suc (suc (suc (suc (suc zero))))))))))))))))))) = kind.Float64x
arithmetic_at (suc (suc (suc (suc (suc (suc (suc (suc (suc (suc (suc (suc (suc (suc (suc (suc (suc (suc (suc (suc zero)))))))))))))))))))) = kind.LongDouble
arithmetic_at _ = kind.Float128

arithmetic-back : (a : Arithmetic) → arithmetic_at (arithmetic_code a) ≡ a
arithmetic-back kind.Boolean = refl
arithmetic-back kind.Char = refl
arithmetic-back kind.SignedChar = refl
arithmetic-back kind.UnsignedChar = refl
arithmetic-back kind.Short = refl
arithmetic-back kind.UnsignedShort = refl
arithmetic-back kind.Int = refl
arithmetic-back kind.UnsignedInt = refl
arithmetic-back kind.Long = refl
arithmetic-back kind.UnsignedLong = refl
arithmetic-back kind.LongLong = refl
arithmetic-back kind.UnsignedLongLong = refl
arithmetic-back kind.Int128 = refl
arithmetic-back kind.UnsignedInt128 = refl
arithmetic-back kind.Float32 = refl
arithmetic-back kind.Float = refl
arithmetic-back kind.Float32x = refl
arithmetic-back kind.Float64 = refl
arithmetic-back kind.Double = refl
arithmetic-back kind.Float64x = refl
arithmetic-back kind.LongDouble = refl
arithmetic-back kind.Float128 = refl

pub arithmetic-same : (a b : Arithmetic) → nat_eq (arithmetic_code a) (arithmetic_code b) ≡ true → a ≡ b
arithmetic-same a b h = sym (arithmetic-back a) ∙ ap arithmetic_at (number-same (arithmetic_code a) (arithmetic_code b) h) ∙ arithmetic-back b
