-- Whole units, by computation: tables, functions and tags. Names: f 0, x 1, y 2, p 3, q 4, s 5, T 6, a 7, b 8, c 9.
use Rattle.std.proofs.Common.{◌≡◌, ℕ, Bool, true, false, List, map, [], ◌∷◌, Option, None, Some, refl}
use Rattle.c_grammar.specs.Specifiers.{occurrences, as_often}
use Rattle.c_tree.specs.declared.keyword.Keyword.TheVariants as words
use Rattle.c_tree.specs.declared.operator.BinaryOp.TheVariants as op
use Rattle.c_tree.specs.declared.operator.StructOrUnion.TheVariants as which_word
use Rattle.c_tree.specs.declared.operator.UnaryOp.TheVariants as prefix
use Rattle.c_tree.specs.declared.token.TokenKind.TheVariants as kinds
use Rattle.c_tree.specs.Node.{Node, node, Primary, Operation, Initializer, Specifier, Declarator, Part, PrimaryShape, OperationShape, StrConst, VaArg, Offsetof, Ident, Binary, Unary, CompoundLit, Braces, Designated, Named, Unnamed, MemberDesignator, IndexDesignator, EnumTag, EnumBody, BitField, Iteration, Do, MaybeNode, Nodes, absent, present}
use Rattle.c_tree.specs.Node as tree
use Rattle.type_rules.specs.Arithmetic as kind
use Rattle.type_rules.specs.Definition.{Cell}
use Rattle.type_rules.specs.Faults.{Undeclared, Redeclared}
use Rattle.type_rules.specs.Functions.{functions_of, tag_of}
use Rattle.type_rules.specs.Types.{CType, Void, Arith, Pointer, Array, Func, Struct, Union, int, size}
use Rattle.type_rules.specs.Roles.{Plain}
use Rattle.type_rules.specs.Scopes.{at_start}
use Rattle.type_rules.specs.Ways.TablesByCase.{filled_each}
use Rattle.type_rules.specs.Vars.{CVar, Extern, Param}
use Rattle.type_rules.proofs.Building.{at, word, token, list, name, star, keyword, enumerated, tag, tagged_body, body, specs, ints, chars, voids, type_in, member, declarator, plain, pointer, nested, bound, no_params, params, param, declaration, function, f_with, block, statement, type_behind, fault_behind, fault_of}

-- the name x, as a node of its own number
abbrev numbered : ℕ → ℕ → Node
numbered i k = node i (at k) (Primary (Ident (word 1 k)))

abbrev numbered_declarator : ℕ → ℕ → ℕ → List Node → Node
numbered_declarator i x k suffixes = node i (at k) (Declarator (Named [] (word x k) (list suffixes)))

-- long x; void f(char x){ x; } x + x;, where x is declared by the node 0, f by 1 and its parameter by 2
two_names : Nodes
two_names = list (
    declaration (specs (keyword words.Long ∷ [])) (numbered_declarator 0 1 1 [] ∷ [])
    ∷ function voids (numbered_declarator 1 0 2 (params (param chars (numbered_declarator 2 1 3 []) ∷ []) ∷ [])) (statement (numbered 3 4) ∷ [])
    ∷ statement (node 6 (at 5) (Operation (Binary op.Add (numbered 4 5) (numbered 5 6))))
    ∷ []
    )

abbrev cell : CType → Option CVar → Option Cell
cell t var = Some (record { ty = t; var = var })

table_of_names : filled_each at_start Plain two_names [] ≡ cell (Arith kind.Long) (Some (Extern 1)) ∷ cell (Func Void) None ∷ cell (Arith kind.Char) (Some (Param 0 3 1)) ∷ cell (Arith kind.Char) (Some (Param 0 3 1)) ∷ cell (Arith kind.Long) (Some (Extern 1)) ∷ cell (Arith kind.Long) (Some (Extern 1)) ∷ cell (Arith kind.Long) None ∷ []
unfolding two_names occurrences as_often
table_of_names = refl

-- f is defined there, with one parameter; it isn't the file's own
a_function : functions_of two_names ≡ record { name = 0; own = false; file = 0; formals = Some (Param 0 3 1) ∷ []; body = block (statement (numbered 3 4) ∷ []); place = at 2 } ∷ []
unfolding two_names occurrences as_often
a_function = refl

abbrev owns : Nodes → List (ℕ × Bool)
owns unit = map (λ f. (f.place.token, f.own)) (functions_of unit)

-- static void f(void); void f(void){ } inline void q(void){ } void p(void){ }: f and q belong to their file
own_functions : owns (list (declaration (specs (keyword words.Static ∷ keyword words.Void ∷ [])) (declarator [] 0 1 (no_params ∷ []) ∷ []) ∷ function voids (declarator [] 0 2 (no_params ∷ [])) [] ∷ function (specs (keyword words.Inline ∷ keyword words.Void ∷ [])) (declarator [] 4 3 (no_params ∷ [])) [] ∷ function voids (declarator [] 3 4 (no_params ∷ [])) [] ∷ [])) ≡ (2, true) ∷ (3, true) ∷ (4, false) ∷ []
unfolding occurrences as_often
own_functions = refl

-- void f(void){ static void p(void); } void p(void){ }: a `static` of a block makes p none of the file's own
static_in_block : owns (list (f_with [] (declaration (specs (keyword words.Static ∷ keyword words.Void ∷ [])) (declarator [] 3 1 (no_params ∷ []) ∷ []) ∷ []) ∷ function voids (declarator [] 3 2 (no_params ∷ [])) [] ∷ [])) ≡ (0, false) ∷ (2, false) ∷ []
unfolding occurrences as_often
static_in_block = refl

-- static void f(void); void f(void); void f(void){ }: any earlier declaration counts
static_before_another : owns (list (declaration (specs (keyword words.Static ∷ keyword words.Void ∷ [])) (declarator [] 0 1 (no_params ∷ []) ∷ []) ∷ declaration voids (declarator [] 0 2 (no_params ∷ []) ∷ []) ∷ function voids (declarator [] 0 3 (no_params ∷ [])) [] ∷ [])) ≡ (3, true) ∷ []
unfolding occurrences as_often
static_before_another = refl

abbrev formals : Nodes → List (List (Option CVar))
formals unit = map (λ f. f.formals) (functions_of unit)

-- int (*(f)(int x, int))(int y){ }: the formals are those beside the name, and the second has none
formals_beside_name : formals (list (function ints (nested [] (nested (star ∷ []) (plain 0 0) (params (param ints (plain 1 1) ∷ node 0 (at 0) (Specifier (tree.Param ints absent)) ∷ []) ∷ [])) (params (param ints (plain 2 2) ∷ []) ∷ [])) [] ∷ [])) ≡ (Some (Param 0 1 1) ∷ None ∷ []) ∷ []
unfolding occurrences as_often
formals_beside_name = refl

-- struct s *p; union { int a; } x; struct T { int a; } y;: the numbers count structures and unions, and know their tags
three_structs : Nodes
three_structs = list (
    declaration (specs (tag which_word.Struct 5 1 ∷ [])) (pointer 3 2 ∷ [])
    ∷ declaration (specs (body which_word.Union (member ints (plain 7 3 ∷ []) ∷ []) ∷ [])) (plain 1 4 ∷ [])
    ∷ declaration (specs (tagged_body which_word.Struct 6 5 (member ints (plain 7 6 ∷ []) ∷ []) ∷ [])) (plain 2 7 ∷ [])
    ∷ []
    )

tags_of_structs : (tag_of three_structs (Struct 0) ∷ tag_of three_structs (Union 1) ∷ tag_of three_structs (Struct 2) ∷ tag_of three_structs int ∷ []) ≡ Some 5 ∷ None ∷ Some 6 ∷ None ∷ []
unfolding three_structs occurrences as_often
tags_of_structs = refl

abbrev expression : OperationShape → Node
expression k = node 0 (at 0) (Operation k)

abbrev primary : PrimaryShape → Node
primary k = node 0 (at 0) (Primary k)

-- "x" "y" and "x" L"y"
pub narrow_string : type_behind [] (primary (StrConst (token (kinds.Str false) 0 0 ∷ token (kinds.Str false) 0 1 ∷ []))) ≡ Some (Array (Arith kind.Char))
narrow_string = refl

wide_string : type_behind [] (primary (StrConst (token (kinds.Str false) 0 0 ∷ token (kinds.Str true) 0 1 ∷ []))) ≡ Some (Array int)
wide_string = refl

-- __builtin_va_arg(x, int), where x is a __builtin_va_list
va_arg : type_behind (declaration (specs (keyword words.BuiltinVaList ∷ [])) (plain 1 0 ∷ []) ∷ []) (primary (VaArg (name 1 0) (type_in ints absent))) ≡ Some int
unfolding occurrences as_often
va_arg = refl

-- __builtin_va_arg(x, int[y]): the list comes before the type
va_arg_in_order : fault_behind [] (primary (VaArg (name 1 1) (type_in ints (present (node 0 (at 2) (Declarator (Unnamed [] (list (bound (present (name 2 2)) ∷ []))))))))) ≡ Some (Undeclared (at 1) 1)
va_arg_in_order = refl

-- __builtin_offsetof(struct s, a.b[x]): no member is looked up, and the index is typed
offset : type_behind (declaration ints (plain 1 0 ∷ []) ∷ []) (primary (Offsetof (type_in (specs (tag which_word.Struct 5 1 ∷ [])) absent) (word 7 2) (list (node 0 (at 3) (Part (MemberDesignator (word 8 3))) ∷ node 0 (at 4) (Part (IndexDesignator (name 1 4))) ∷ [])))) ≡ Some size
unfolding occurrences as_often
offset = refl

offset_of_undeclared : fault_behind [] (primary (Offsetof (type_in (specs (tag which_word.Struct 5 1 ∷ [])) absent) (word 7 2) (list (node 0 (at 4) (Part (IndexDesignator (name 1 4))) ∷ [])))) ≡ Some (Undeclared (at 4) 1)
offset_of_undeclared = refl

-- &(int []){ [x] = y }: the elements are visited, and the literal is an lvalue
abbrev literal : Node
literal = expression (CompoundLit (type_in ints (present (node 0 (at 1) (Declarator (Unnamed [] (list (bound absent ∷ []))))))) (node 0 (at 2) (Initializer (Braces (list (node 0 (at 3) (Initializer (Designated (list (node 0 (at 3) (Part (IndexDesignator (name 1 4))) ∷ [])) (name 2 5))) ∷ [])) false))))

address_of_literal : type_behind (declaration ints (plain 1 0 ∷ plain 2 0 ∷ []) ∷ []) (expression (Unary prefix.AddressOf literal)) ≡ Some (Pointer (Array int))
unfolding occurrences as_often
address_of_literal = refl

element_of_literal : fault_behind (declaration ints (plain 1 0 ∷ []) ∷ []) literal ≡ Some (Undeclared (at 5) 2)
unfolding occurrences as_often
element_of_literal = refl

-- the words of a type in any order: long unsigned int long, and const volatile int with words between
words_in_order : type_behind (declaration (specs (keyword words.Long ∷ keyword words.Unsigned ∷ keyword words.Const ∷ keyword words.Int ∷ keyword words.Long ∷ [])) (plain 1 0 ∷ []) ∷ []) (name 1 0) ≡ Some (Arith kind.UnsignedLongLong)
unfolding occurrences as_often
words_in_order = refl

-- enum s; struct s *p;: in one scope a tag is of one sort; and in a block behind enum s, enum s x is the same
enum_then_struct : fault_of (declaration (specs (node 0 (at 1) (Specifier (EnumTag (word 5 1))) ∷ [])) [] ∷ declaration (specs (tag which_word.Struct 5 2 ∷ [])) (pointer 3 3 ∷ []) ∷ []) ≡ Some (Redeclared (at 2) 5)
enum_then_struct = refl

enum_seen_inside : fault_of (declaration (specs (node 0 (at 1) (Specifier (EnumTag (word 5 1))) ∷ [])) [] ∷ block (declaration (specs (node 0 (at 2) (Specifier (EnumTag (word 5 2))) ∷ [])) [] ∷ declaration (specs (tag which_word.Struct 5 3 ∷ [])) (pointer 3 4 ∷ []) ∷ []) ∷ []) ≡ None
enum_seen_inside = refl

-- void f(struct s *p); struct s *q;: the tag of the parameters ends with their list
tag_of_prototype : type_behind (declaration voids (declarator [] 0 0 (params (param (specs (tag which_word.Struct 5 1 ∷ [])) (pointer 3 1) ∷ []) ∷ []) ∷ []) ∷ declaration (specs (tag which_word.Struct 5 2 ∷ [])) (pointer 4 3 ∷ []) ∷ []) (name 4 0) ≡ Some (Pointer (Struct 1))
unfolding occurrences as_often
tag_of_prototype = refl

-- struct s; { enum s x; struct s *q; }: the enumeration is a new tag of the block
enum_hides_struct : fault_of (declaration (specs (tag which_word.Struct 5 1 ∷ [])) [] ∷ block (declaration (specs (node 0 (at 2) (Specifier (EnumTag (word 5 2))) ∷ [])) (plain 1 3 ∷ []) ∷ declaration (specs (tag which_word.Struct 5 4 ∷ [])) (pointer 4 5 ∷ []) ∷ []) ∷ []) ≡ Some (Redeclared (at 4) 5)
enum_hides_struct = refl

abbrev enumeration_of : ℕ → ℕ → Node → Node
enumeration_of x k e = node 0 (at 0) (Specifier (EnumBody (Some (word x k)) (list (e ∷ [])) false))

-- enum s { a }; enum s x; enum s { b }; and with the last in a block
enumeration_twice : fault_of (declaration (specs (enumeration_of 5 1 (enumerated 7 2 absent) ∷ [])) [] ∷ declaration (specs (node 0 (at 3) (Specifier (EnumTag (word 5 3))) ∷ [])) (plain 1 4 ∷ []) ∷ declaration (specs (enumeration_of 5 5 (enumerated 8 6 absent) ∷ [])) [] ∷ []) ≡ Some (Redeclared (at 5) 5)
enumeration_twice = refl

enumeration_inside : fault_of (declaration (specs (enumeration_of 5 1 (enumerated 7 2 absent) ∷ [])) [] ∷ block (declaration (specs (enumeration_of 5 3 (enumerated 8 4 absent) ∷ [])) [] ∷ []) ∷ []) ≡ None
enumeration_inside = refl

abbrev bits : MaybeNode → Node → Node
bits d width = node 0 (at 0) (Specifier (BitField d width))

-- struct s { int a : x; int : y; } z; where x is declared: the fault is in the second width
widths : fault_of (declaration ints (plain 1 1 ∷ []) ∷ declaration (specs (tagged_body which_word.Struct 5 1 (member ints (bits (present (plain 7 2)) (name 1 3) ∷ []) ∷ member ints (bits absent (name 2 4) ∷ []) ∷ []) ∷ [])) [] ∷ []) ≡ Some (Undeclared (at 4) 2)
unfolding occurrences as_often
widths = refl

-- struct s { int a; int a : y; };: the name comes before the width
name_before_width : fault_of (declaration (specs (tagged_body which_word.Struct 5 1 (member ints (plain 7 2 ∷ bits (present (plain 7 3)) (name 2 4) ∷ []) ∷ []) ∷ [])) [] ∷ []) ≡ Some (Redeclared (at 3) 7)
unfolding occurrences as_often
name_before_width = refl

-- do x; while (y);: the body comes before the condition
body_before_condition : fault_of (f_with [] (node 0 (at 2) (Iteration (Do (statement (name 1 3)) (name 2 5))) ∷ []) ∷ []) ≡ Some (Undeclared (at 3) 1)
unfolding occurrences as_often
body_before_condition = refl

-- sizeof x: the operand is typed
sizeof_undeclared : fault_behind [] (expression (Unary prefix.Sizeof (name 1 5))) ≡ Some (Undeclared (at 5) 1)
sizeof_undeclared = refl
