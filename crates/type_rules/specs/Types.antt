-- Types (ISO 9899:1990, 6.1.2.5) without qualifiers, lengths of arrays and types of parameters, and what operators make of
-- their operands' types (6.3).
use Rattle.std.specs.Prelude.{ℕ, Bool, true, false, cond, not, ◌&&◌, Option, None, Some, is_some}
use Rattle.c_tree.specs.declared.operator.BinaryOp.{BinaryOp}
use Rattle.c_tree.specs.declared.operator.BinaryOp.TheVariants as binary
use Rattle.type_rules.specs.Arithmetic.{Arithmetic, Int, Long, UnsignedLong, is_floating, promote, convert}
use Rattle.type_rules.specs.Options.{or_else, if_there}

-- The number counts the structures and unions that a unit declares, in order.
pub data CType : Type 0 where
  Void : CType
  Arith : Arithmetic → CType
  VaList : CType
  Pointer : CType → CType
  Array : CType → CType
  Func : CType → CType
  Struct : ℕ → CType
  Union : ℕ → CType

abbrev pub int : CType
int = Arith Int

abbrev pub long : CType
long = Arith Long

-- the type of `sizeof` and of offsets
abbrev pub size : CType
size = Arith UnsignedLong

abbrev pub arithmetic : CType → Option Arithmetic
arithmetic (Arith k) = Some k
arithmetic _ = None

abbrev pub is_arithmetic : CType → Bool
is_arithmetic t = is_some (arithmetic t)

abbrev pub is_integer : CType → Bool
is_integer (Arith k) = not (is_floating k)
is_integer _ = false

abbrev pub is_function : CType → Bool
is_function (Func t) = true
is_function _ = false

-- what `*x` is (6.3.3.2)
abbrev pub pointed : CType → Option CType
pointed (Pointer t) = Some t
pointed (Array t) = Some t
pointed (Func t) = Some (Func t)
pointed _ = None

-- what a pointer points to, or an array's element
abbrev pub element : CType → Option CType
element (Pointer t) = Some t
element (Array t) = Some t
element _ = None

-- `x[y]`, where either may be the pointer (6.3.2.1)
abbrev pub indexed : CType → CType → Option CType
indexed x y = or_else (element x) (element y)

abbrev pub result : CType → Option CType
result (Func t) = Some t
result _ = None

-- the result of a function or of a function pointed to (6.3.2.2)
abbrev pub called : CType → Option CType
called (Func t) = Some t
called (Pointer t) = result t
called _ = None

-- what has no arithmetic type counts as int
abbrev pub promoted : CType → CType
promoted t = if_there (arithmetic t) int (λ k. Arith (promote k))

abbrev pub converted : CType → CType → CType
converted x y = if_there (arithmetic x) int (λ k. if_there (arithmetic y) int (λ l. Arith (convert k l)))

-- a pointer moved by an integer
abbrev pub moved : CType → CType → CType
moved t by = cond (is_integer by) (Pointer t) int

-- `x + y` (6.3.6)
abbrev pub sum : CType → CType → CType
sum x y = if_there (element x) (if_there (element y) (converted x y) (λ t. moved t x)) (λ t. moved t y)

-- `x - y` (6.3.6)
abbrev pub difference : CType → CType → CType
difference x y = if_there (element x) (converted x y) (λ t. cond (is_some (element y)) long (moved t y))

-- `c ? x : y` (6.3.15)
abbrev pub chosen : CType → CType → CType
chosen x y = cond (is_arithmetic x && is_arithmetic y) (converted x y) (if_there (element x) (if_there (element y) x Pointer) Pointer)

-- `x op y` (6.3.5 to 6.3.14, 6.3.17)
abbrev pub combined : BinaryOp → CType → CType → CType
combined binary.Multiply x y = converted x y
combined binary.Divide x y = converted x y
combined binary.Remainder x y = converted x y
combined binary.Add x y = sum x y
combined binary.Subtract x y = difference x y
combined binary.ShiftLeft x y = promoted x
combined binary.ShiftRight x y = promoted x
combined binary.Less x y = int
combined binary.Greater x y = int
combined binary.LessEqual x y = int
combined binary.GreaterEqual x y = int
combined binary.Equal x y = int
combined binary.NotEqual x y = int
combined binary.BitAnd x y = converted x y
combined binary.BitXor x y = converted x y
combined binary.BitOr x y = converted x y
combined binary.LogAnd x y = int
combined binary.LogOr x y = int
combined binary.Comma x y = y

-- a parameter's type as the function sees it (6.5.4.3, 6.7.1)
abbrev pub adjusted : CType → CType
adjusted (Array t) = Pointer t
adjusted (Func t) = Pointer (Func t)
adjusted t = t
