-- Types of expressions, by computation. Names: f 0, x 1, y 2, p 3, q 4, s 5, T 6, a 7, b 8, c 9.
use Rattle.std.proofs.Common.{◌≡◌, true, false, List, [], ◌∷◌, Some, refl}
use Rattle.c_grammar.specs.Specifiers.{occurrences, as_often}
use Rattle.c_tree.specs.declared.keyword.Keyword.TheVariants as words
use Rattle.c_tree.specs.declared.operator.BinaryOp.TheVariants as op
use Rattle.c_tree.specs.declared.operator.StructOrUnion.TheVariants as which_word
use Rattle.c_tree.specs.declared.operator.UnaryOp.TheVariants as prefix
use Rattle.c_tree.specs.declared.token.FloatEnd.TheVariants as ends
use Rattle.c_tree.specs.declared.token.TokenKind.TheVariants as kinds
use Rattle.c_tree.specs.Node.{Node, Declarator, Unnamed, present}
use Rattle.type_rules.specs.Arithmetic.{convert, promote}
use Rattle.type_rules.specs.Arithmetic as kind
use Rattle.type_rules.specs.Faults.{Undeclared, NoField, NotPointer, NotStruct, NotFunction, NotLvalue}
use Rattle.type_rules.specs.Types.{Void, Arith, Pointer, Array, Func, int, long}
use Rattle.type_rules.proofs.Building.{at, a_node, list, name, func, constant, decimal, paren, unary, binary, choice, assigned, call, dot, arrow, index, cast, keyword, tag, tagged_body, body, specs, ints, chars, voids, type_in, member, declarator, plain, pointer, pointer_alone, bound, params, declaration, type_behind, fault_behind}

-- 2147483647 is the last int in decimal, and 9223372036854775807 the last long
pub last_int : type_behind [] (decimal 2147483647) ≡ Some int
last_int = refl

first_long : type_behind [] (decimal 2147483648) ≡ Some long
first_long = refl

first_unsigned_long : type_behind [] (decimal 9223372036854775808) ≡ Some (Arith kind.UnsignedLong)
first_unsigned_long = refl

-- 0xffffffff, 0x100000000, 0xffffffffffffffff
hexadecimal_unsigned : type_behind [] (constant (kinds.Int 4294967295 false false 0)) ≡ Some (Arith kind.UnsignedInt)
hexadecimal_unsigned = refl

hexadecimal_long : type_behind [] (constant (kinds.Int 4294967296 false false 0)) ≡ Some long
hexadecimal_long = refl

hexadecimal_last : type_behind [] (constant (kinds.Int 18446744073709551615 false false 0)) ≡ Some (Arith kind.UnsignedLong)
hexadecimal_last = refl

-- 4294967295u, 4294967296u, 1l, 9223372036854775808l, 1ul, 1ll, 9223372036854775808ll, 1ull
unsigned_int : type_behind [] (constant (kinds.Int 4294967295 true true 0)) ≡ Some (Arith kind.UnsignedInt)
unsigned_int = refl

unsigned_past_int : type_behind [] (constant (kinds.Int 4294967296 true true 0)) ≡ Some (Arith kind.UnsignedLong)
unsigned_past_int = refl

long_one : type_behind [] (constant (kinds.Int 1 true false 1)) ≡ Some long
long_one = refl

long_past_long : type_behind [] (constant (kinds.Int 9223372036854775808 true false 1)) ≡ Some (Arith kind.UnsignedLong)
long_past_long = refl

unsigned_long_one : type_behind [] (constant (kinds.Int 1 true true 1)) ≡ Some (Arith kind.UnsignedLong)
unsigned_long_one = refl

long_long_one : type_behind [] (constant (kinds.Int 1 true false 2)) ≡ Some (Arith kind.LongLong)
long_long_one = refl

long_long_past : type_behind [] (constant (kinds.Int 9223372036854775808 true false 2)) ≡ Some (Arith kind.UnsignedLongLong)
long_long_past = refl

unsigned_long_long_one : type_behind [] (constant (kinds.Int 1 true true 2)) ≡ Some (Arith kind.UnsignedLongLong)
unsigned_long_long_one = refl

-- 1.0f, 'a'
float_constant : type_behind [] (constant (kinds.Float ends.F)) ≡ Some (Arith kind.Float)
float_constant = refl

character : type_behind [] (constant (kinds.Char false)) ≡ Some int
character = refl

-- the usual conversions
chars_convert : convert kind.Char kind.UnsignedChar ≡ kind.Int
chars_convert = refl

shorts_convert : convert kind.UnsignedShort kind.Boolean ≡ kind.Int
shorts_convert = refl

unsigned_wins : convert kind.Int kind.UnsignedInt ≡ kind.UnsignedInt
unsigned_wins = refl

long_holds_unsigned : convert kind.UnsignedInt kind.Long ≡ kind.Long
long_holds_unsigned = refl

long_long_does_not_hold : convert kind.LongLong kind.UnsignedLong ≡ kind.UnsignedLongLong
long_long_does_not_hold = refl

greater_unsigned : convert kind.UnsignedLongLong kind.Long ≡ kind.UnsignedLongLong
greater_unsigned = refl

int128_holds : convert kind.UnsignedLongLong kind.Int128 ≡ kind.Int128
int128_holds = refl

float_and_int : convert kind.UnsignedLong kind.Float ≡ kind.Float
float_and_int = refl

-- each pair of neighbours in the order of floating types
floats_in_order : (convert kind.Float32 kind.Float ∷ convert kind.Float32x kind.Float ∷ convert kind.Float32x kind.Float64 ∷ convert kind.Double kind.Float64 ∷ convert kind.Float64x kind.Double ∷ convert kind.Float64x kind.LongDouble ∷ convert kind.Float128 kind.LongDouble ∷ []) ≡ (kind.Float ∷ kind.Float32x ∷ kind.Float64 ∷ kind.Double ∷ kind.Float64x ∷ kind.LongDouble ∷ kind.Float128 ∷ [])
floats_in_order = refl

-- char *p; int x; int a[2]; float y; void q();
some_names : List Node
some_names =
    declaration chars (pointer 3 0 ∷ [])
    ∷ declaration ints (plain 1 0 ∷ declarator [] 7 0 (bound (present (decimal 2)) ∷ []) ∷ [])
    ∷ declaration (specs (keyword words.Float ∷ [])) (plain 2 0 ∷ [])
    ∷ declaration voids (declarator [] 4 0 (params [] ∷ []) ∷ [])
    ∷ []

-- p + x, x + p, a + x, p + y, p + p
pointer_plus_integer : type_behind some_names (binary op.Add (name 3 0) (name 1 0)) ≡ Some (Pointer (Arith kind.Char))
unfolding some_names occurrences as_often
pointer_plus_integer = refl

integer_plus_pointer : type_behind some_names (binary op.Add (name 1 0) (name 3 0)) ≡ Some (Pointer (Arith kind.Char))
unfolding some_names occurrences as_often
integer_plus_pointer = refl

array_plus_integer : type_behind some_names (binary op.Add (name 7 0) (name 1 0)) ≡ Some (Pointer int)
unfolding some_names occurrences as_often
array_plus_integer = refl

pointer_plus_float : type_behind some_names (binary op.Add (name 3 0) (name 2 0)) ≡ Some int
unfolding some_names occurrences as_often
pointer_plus_float = refl

pointer_plus_pointer : type_behind some_names (binary op.Add (name 3 0) (name 3 0)) ≡ Some int
unfolding some_names occurrences as_often
pointer_plus_pointer = refl

-- p - x, p - p, x - p
pointer_less_integer : type_behind some_names (binary op.Subtract (name 3 0) (name 1 0)) ≡ Some (Pointer (Arith kind.Char))
unfolding some_names occurrences as_often
pointer_less_integer = refl

pointer_less_pointer : type_behind some_names (binary op.Subtract (name 3 0) (name 7 0)) ≡ Some long
unfolding some_names occurrences as_often
pointer_less_pointer = refl

integer_less_pointer : type_behind some_names (binary op.Subtract (name 1 0) (name 3 0)) ≡ Some int
unfolding some_names occurrences as_often
integer_less_pointer = refl

-- x ? p : 0, x ? 0 : p, x ? a : p, x ? x : y
choice_of_pointer : type_behind some_names (choice (name 1 0) (name 3 0) (decimal 0)) ≡ Some (Pointer (Arith kind.Char))
unfolding some_names occurrences as_often
choice_of_pointer = refl

choice_of_null : type_behind some_names (choice (name 1 0) (decimal 0) (name 3 0)) ≡ Some (Pointer (Arith kind.Char))
unfolding some_names occurrences as_often
choice_of_null = refl

choice_of_array : type_behind some_names (choice (name 1 0) (name 7 0) (name 3 0)) ≡ Some (Pointer int)
unfolding some_names occurrences as_often
choice_of_array = refl

choice_of_arithmetic : type_behind some_names (choice (name 1 0) (name 1 0) (name 2 0)) ≡ Some (Arith kind.Float)
unfolding some_names occurrences as_often
choice_of_arithmetic = refl

-- x ? q : q, where q is a function
choice_of_functions : type_behind some_names (choice (name 1 0) (name 4 0) (name 4 0)) ≡ Some (Func Void)
unfolding some_names occurrences as_often
choice_of_functions = refl

-- *a, x[a], *q, &a
deref_array : type_behind some_names (unary prefix.Deref 0 (name 7 0)) ≡ Some int
unfolding some_names occurrences as_often
deref_array = refl

index_turned : type_behind some_names (index 0 (name 1 0) (name 7 0)) ≡ Some int
unfolding some_names occurrences as_often
index_turned = refl

deref_function : type_behind some_names (unary prefix.Deref 0 (name 4 0)) ≡ Some (Func Void)
unfolding some_names occurrences as_often
deref_function = refl

address_of_array : type_behind some_names (unary prefix.AddressOf 0 (name 7 0)) ≡ Some (Pointer (Array int))
unfolding some_names occurrences as_often
address_of_array = refl

-- *x, x[x], x(), q.a, x->a, (x + x) = x, &(x + x), q = x
not_pointer : fault_behind some_names (unary prefix.Deref 5 (name 1 6)) ≡ Some (NotPointer (at 5))
unfolding some_names occurrences as_often
not_pointer = refl

not_indexed : fault_behind some_names (index 5 (name 1 5) (name 1 6)) ≡ Some (NotPointer (at 5))
unfolding some_names occurrences as_often
not_indexed = refl

not_function : fault_behind some_names (call 5 (name 1 5) []) ≡ Some (NotFunction (at 5))
unfolding some_names occurrences as_often
not_function = refl

not_struct : fault_behind some_names (dot 5 (name 4 5) 7) ≡ Some (NotStruct (at 5))
unfolding some_names occurrences as_often
not_struct = refl

no_pointer_before_arrow : fault_behind some_names (arrow 5 (name 1 5) 7) ≡ Some (NotPointer (at 5))
unfolding some_names occurrences as_often
no_pointer_before_arrow = refl

sum_not_assigned : fault_behind some_names (assigned 5 (paren (binary op.Add (name 1 6) (name 1 7))) (name 1 8)) ≡ Some (NotLvalue (at 5))
unfolding some_names occurrences as_often
sum_not_assigned = refl

sum_has_no_address : fault_behind some_names (unary prefix.AddressOf 5 (paren (binary op.Add (name 1 6) (name 1 7)))) ≡ Some (NotLvalue (at 5))
unfolding some_names occurrences as_often
sum_has_no_address = refl

function_not_assigned : fault_behind some_names (assigned 5 (name 4 5) (name 1 6)) ≡ Some (NotLvalue (at 5))
unfolding some_names occurrences as_often
function_not_assigned = refl

-- (x + x)++, which begins with its operand
sum_not_counted : fault_behind some_names (unary prefix.PostInc 4 (paren (binary op.Add (name 1 5) (name 1 6)))) ≡ Some (NotLvalue (at 4))
unfolding some_names occurrences as_often
sum_not_counted = refl

-- x(c), where x is no function: the argument comes first
argument_first : fault_behind some_names (call 1 (name 1 1) (name 9 2 ∷ [])) ≡ Some (Undeclared (at 2) 9)
unfolding some_names occurrences as_often
argument_first = refl

-- (int [c])b: the type comes before the operand
type_first : fault_behind [] (cast (type_in ints (present (a_node 0 (Declarator (Unnamed [] (list (bound (present (name 9 1)) ∷ []))))))) (name 8 2)) ≡ Some (Undeclared (at 1) 9)
type_first = refl

-- &q has a type, since q is a function
function_has_address : type_behind some_names (unary prefix.AddressOf 5 (name 4 6)) ≡ Some (Pointer (Func Void))
unfolding some_names occurrences as_often
function_has_address = refl

-- c() isn't declared, and returns int; (c)() is refused
undeclared_callee : type_behind [] (call 5 (name 9 5) []) ≡ Some int
undeclared_callee = refl

undeclared_in_parentheses : fault_behind [] (call 5 (paren (name 9 6)) []) ≡ Some (Undeclared (at 6) 9)
undeclared_in_parentheses = refl

-- an argument isn't a callee: c(c)
undeclared_argument : fault_behind [] (call 5 (name 9 5) (name 9 7 ∷ [])) ≡ Some (Undeclared (at 7) 9)
undeclared_argument = refl

-- __func__ is an array of char, and no lvalue; called it is no function
function_name : type_behind [] (func 0) ≡ Some (Array (Arith kind.Char))
function_name = refl

function_name_no_lvalue : fault_behind [] (unary prefix.AddressOf 5 (func 6)) ≡ Some (NotLvalue (at 5))
function_name_no_lvalue = refl

function_name_called : fault_behind [] (call 5 (func 5) []) ≡ Some (NotFunction (at 5))
function_name_called = refl

-- (char *)x
cast_to_pointer : type_behind some_names (cast (type_in chars (present pointer_alone)) (name 1 0)) ≡ Some (Pointer (Arith kind.Char))
unfolding some_names occurrences as_often
cast_to_pointer = refl

-- struct s { int a; struct { int b; union { int c; }; }; } *p;
inner_struct : List Node
inner_struct =
    declaration
    (specs (tagged_body which_word.Struct 5 0
    (member ints (plain 7 0 ∷ [])
    ∷ member (specs (body which_word.Struct (member chars (plain 8 0 ∷ []) ∷ member (specs (body which_word.Union (member ints (pointer 9 0 ∷ []) ∷ [])
    ∷ []))
    [] ∷ []) ∷ []))
    [] ∷ []) ∷ []))
    (pointer 3 0 ∷ [])
    ∷ []

-- p->a, p->b, p->c, (*p).c
own_member : type_behind inner_struct (arrow 0 (name 3 0) 7) ≡ Some int
unfolding inner_struct occurrences as_often
own_member = refl

member_of_unnamed : type_behind inner_struct (arrow 0 (name 3 0) 8) ≡ Some (Arith kind.Char)
unfolding inner_struct occurrences as_often
member_of_unnamed = refl

member_two_deep : type_behind inner_struct (dot 0 (paren (unary prefix.Deref 0 (name 3 0))) 9) ≡ Some (Pointer int)
unfolding inner_struct occurrences as_often
member_two_deep = refl

no_such_member : fault_behind inner_struct (arrow 5 (name 3 5) 4) ≡ Some (NoField (at 5) 4)
unfolding inner_struct occurrences as_often
no_such_member = refl

-- struct s { int a; } q(); &q().a: what a function gives is no lvalue
member_of_result : fault_behind (declaration (specs (tagged_body which_word.Struct 5 0 (member ints (plain 7 0 ∷ []) ∷ []) ∷ [])) (declarator [] 4 0 (params [] ∷ []) ∷ []) ∷ []) (unary prefix.AddressOf 3 (dot 4 (call 4 (name 4 4) []) 7)) ≡ Some (NotLvalue (at 3))
unfolding occurrences as_often
member_of_result = refl

-- behind struct s *p alone, p->a is refused: the structure isn't complete
incomplete : fault_behind (declaration (specs (tag which_word.Struct 5 0 ∷ [])) (pointer 3 0 ∷ []) ∷ []) (arrow 5 (name 3 5) 7) ≡ Some (NotStruct (at 5))
incomplete = refl
