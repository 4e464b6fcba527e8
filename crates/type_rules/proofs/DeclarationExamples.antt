-- Declarations, scopes and first faults, by computation. Names: f 0, x 1, y 2, p 3, q 4, s 5, T 6, a 7, b 8, c 9.
use Rattle.std.proofs.Common.{◌≡◌, List, [], ◌∷◌, None, Some, refl}
use Rattle.c_grammar.specs.Specifiers.{occurrences, as_often}
use Rattle.c_tree.specs.declared.keyword.Keyword.TheVariants as words
use Rattle.c_tree.specs.declared.operator.StructOrUnion.TheVariants as which_word
use Rattle.c_tree.specs.declared.operator.UnaryOp.TheVariants as prefix
use Rattle.c_tree.specs.Node.{Node, absent, present}
use Rattle.type_rules.specs.Arithmetic as kind
use Rattle.type_rules.specs.Definition.{type_of}
use Rattle.type_rules.specs.Faults.{Undeclared, Redeclared, NotStruct}
use Rattle.type_rules.specs.Parts.{flat}
use Rattle.type_rules.specs.Roles.{Plain}
use Rattle.type_rules.specs.Types.{Void, Arith, Pointer, Array, Func, Struct, int}
use Rattle.type_rules.specs.Vars.{Extern, FileStatic, LocalStatic, Local}
use Rattle.type_rules.proofs.Building.{at, name, decimal, paren, unary, call, arrow, sizeof, assigned, keyword, type_name, tag, tagged_body, body, enumeration, enumerated, specs, ints, chars, voids, stored, type_in, member, declarator, plain, pointer, nested, bound, no_params, params, param, initialized, declaration, function, f_with, block, statement, for_in, behind, inside, type_behind, var_behind, var_inside, var_within, fault_of, star}

-- void f(void){ x; }
pub undeclared : fault_of (f_with [] (statement (name 1 5) ∷ []) ∷ []) ≡ Some (Undeclared (at 5) 1)
unfolding occurrences as_often
undeclared = refl

-- void f(void){ { int x; x; } x; }: the scope of x ends with its block
block_ends : fault_of (f_with [] (block (declaration ints (plain 1 2 ∷ []) ∷ statement (name 1 3) ∷ []) ∷ statement (name 1 5) ∷ []) ∷ []) ≡ Some (Undeclared (at 5) 1)
unfolding occurrences as_often
block_ends = refl

-- void f(void){ { *x; } y; }: of two faults the first in the text
first_of_two : fault_of (f_with [] (block (statement (name 1 3) ∷ []) ∷ statement (name 2 5) ∷ []) ∷ []) ≡ Some (Undeclared (at 3) 1)
unfolding occurrences as_often
first_of_two = refl

-- void f(int x){ x = y(x, z), where z is 9: an operand's fault comes before its operator's
operand_first : fault_of (f_with (param ints (plain 1 0) ∷ []) (statement (call 4 (name 1 4) (name 9 6 ∷ [])) ∷ []) ∷ []) ≡ Some (Undeclared (at 6) 9)
unfolding occurrences as_often
operand_first = refl

-- int x; int x;
twice_in_file : fault_of (declaration ints (plain 1 1 ∷ []) ∷ declaration ints (plain 1 2 ∷ []) ∷ []) ≡ None
unfolding occurrences as_often
twice_in_file = refl

-- void f(void){ int x; int x; }
twice_in_block : fault_of (f_with [] (declaration ints (plain 1 1 ∷ []) ∷ declaration ints (plain 1 2 ∷ []) ∷ []) ∷ []) ≡ Some (Redeclared (at 2) 1)
unfolding occurrences as_often
twice_in_block = refl

-- void f(void){ int x; { int x; } }
hidden_in_block : fault_of (f_with [] (declaration ints (plain 1 1 ∷ []) ∷ block (declaration ints (plain 1 2 ∷ []) ∷ []) ∷ []) ∷ []) ≡ None
unfolding occurrences as_often
hidden_in_block = refl

-- void f(int x){ int x; }: parameters and the outermost block are one scope
parameter_again : fault_of (f_with (param ints (plain 1 1) ∷ []) (declaration ints (plain 1 2 ∷ []) ∷ []) ∷ []) ≡ Some (Redeclared (at 2) 1)
unfolding occurrences as_often
parameter_again = refl

-- void f(int x){ { int x; } }
parameter_hidden : fault_of (f_with (param ints (plain 1 1) ∷ []) (block (declaration ints (plain 1 2 ∷ []) ∷ []) ∷ []) ∷ []) ≡ None
unfolding occurrences as_often
parameter_hidden = refl

-- int f(int x, int x);
parameters_alike : fault_of (declaration ints (declarator [] 0 0 (params (param ints (plain 1 1) ∷ param ints (plain 1 2) ∷ []) ∷ []) ∷ []) ∷ []) ≡ Some (Redeclared (at 2) 1)
unfolding occurrences as_often
parameters_alike = refl

-- void f(void){ extern int x; extern int x; int y(void); int y(void); }
extern_twice : fault_of (f_with [] (declaration (stored words.Extern words.Int) (plain 1 1 ∷ []) ∷ declaration (stored words.Extern words.Int) (plain 1 2 ∷ []) ∷ declaration ints (declarator [] 2 3 (no_params ∷ []) ∷ []) ∷ declaration ints (declarator [] 2 4 (no_params ∷ []) ∷ []) ∷ []) ∷ []) ≡ None
unfolding occurrences as_often
extern_twice = refl

-- void f(void){ extern int x; int x; }
extern_once : fault_of (f_with [] (declaration (stored words.Extern words.Int) (plain 1 1 ∷ []) ∷ declaration ints (plain 1 2 ∷ []) ∷ []) ∷ []) ≡ Some (Redeclared (at 2) 1)
unfolding occurrences as_often
extern_once = refl

-- int x; typedef int x;
classes_differ : fault_of (declaration ints (plain 1 1 ∷ []) ∷ declaration (stored words.Typedef words.Int) (plain 1 2 ∷ []) ∷ []) ≡ Some (Redeclared (at 2) 1)
unfolding occurrences as_often
classes_differ = refl

-- typedef int x; typedef int x;
types_twice : fault_of (declaration (stored words.Typedef words.Int) (plain 1 1 ∷ []) ∷ declaration (stored words.Typedef words.Int) (plain 1 2 ∷ []) ∷ []) ≡ None
unfolding occurrences as_often
types_twice = refl

-- enum { a, a };
enumerator_twice : fault_of (declaration (specs (enumeration (enumerated 7 1 absent ∷ enumerated 7 2 absent ∷ []) ∷ [])) [] ∷ []) ≡ Some (Redeclared (at 2) 7)
enumerator_twice = refl

-- enum { a = a }; and enum { a, b = a };
enumerator_of_itself : fault_of (declaration (specs (enumeration (enumerated 7 1 (present (name 7 2)) ∷ []) ∷ [])) [] ∷ []) ≡ Some (Undeclared (at 2) 7)
enumerator_of_itself = refl

enumerator_of_another : fault_of (declaration (specs (enumeration (enumerated 7 1 absent ∷ enumerated 8 2 (present (name 7 3)) ∷ []) ∷ [])) [] ∷ []) ≡ None
enumerator_of_another = refl

-- struct s { int a; }; struct s { int a; };
two_bodies : fault_of (declaration (specs (tagged_body which_word.Struct 5 1 (member ints (plain 7 2 ∷ []) ∷ []) ∷ [])) [] ∷ declaration (specs (tagged_body which_word.Struct 5 3 (member ints (plain 7 4 ∷ []) ∷ []) ∷ [])) [] ∷ []) ≡ Some (Redeclared (at 3) 5)
unfolding occurrences as_often
two_bodies = refl

-- struct s { struct s { int x; } a; } b; is a second body too, and comes before the faults in it: y isn't declared
body_in_body : fault_of (declaration (specs (tagged_body which_word.Struct 5 1 (member (specs (tagged_body which_word.Struct 5 2 (member ints (declarator [] 1 3 (bound (present (name 2 4)) ∷ []) ∷ []) ∷ []) ∷ [])) (plain 7 5 ∷ []) ∷ []) ∷ [])) (plain 8 6 ∷ []) ∷ []) ≡ Some (Redeclared (at 2) 5)
unfolding occurrences as_often
body_in_body = refl

-- struct s *p; union s *q;
two_sorts : fault_of (declaration (specs (tag which_word.Struct 5 1 ∷ [])) (pointer 3 2 ∷ []) ∷ declaration (specs (tag which_word.Union 5 3 ∷ [])) (pointer 4 4 ∷ []) ∷ []) ≡ Some (Redeclared (at 3) 5)
two_sorts = refl

-- struct s *p; void f(void){ union s *q; }: a new tag
another_sort_inside : fault_of (declaration (specs (tag which_word.Struct 5 1 ∷ [])) (pointer 3 2 ∷ []) ∷ f_with [] (declaration (specs (tag which_word.Union 5 3 ∷ [])) (pointer 4 4 ∷ []) ∷ []) ∷ []) ≡ None
unfolding occurrences as_often
another_sort_inside = refl

-- struct s *p; { struct s; } struct s *q;
alone_inside : List Node
alone_inside = declaration (specs (tag which_word.Struct 5 1 ∷ [])) (pointer 3 2 ∷ []) ∷ block (declaration (specs (tag which_word.Struct 5 1 ∷ [])) [] ∷ []) ∷ declaration (specs (tag which_word.Struct 5 3 ∷ [])) (pointer 4 4 ∷ []) ∷ []

type_of_p : type_behind alone_inside (name 3 0) ≡ Some (Pointer (Struct 0))
unfolding alone_inside
type_of_p = refl

-- behind the block the outer tag is in force again
type_of_q : type_behind alone_inside (name 4 0) ≡ Some (Pointer (Struct 0))
unfolding alone_inside
type_of_q = refl

-- struct s { int a, a; }; and struct s { int a; struct { int b, a; }; };
member_twice : fault_of (declaration (specs (tagged_body which_word.Struct 5 1 (member ints (plain 7 2 ∷ plain 7 3 ∷ []) ∷ []) ∷ [])) [] ∷ []) ≡ Some (Redeclared (at 3) 7)
unfolding occurrences as_often
member_twice = refl

member_of_unnamed_twice : fault_of (declaration (specs (tagged_body which_word.Struct 5 1 (member ints (plain 7 2 ∷ []) ∷ member (specs (body which_word.Struct (member ints (plain 8 3 ∷ plain 7 4 ∷ []) ∷ []) ∷ [])) [] ∷ []) ∷ [])) [] ∷ []) ≡ Some (Redeclared (at 4) 7)
unfolding occurrences as_often
member_of_unnamed_twice = refl

-- typedef char *T; void f(int (*T)(char *), char *x){ (T)(x); }: here T is the parameter, and (T)(x) a call
hidden_type : fault_of (declaration (stored words.Typedef words.Char) (pointer 6 1 ∷ []) ∷ f_with (param ints (nested [] (pointer 6 2) (params (param chars (pointer 1 2) ∷ []) ∷ [])) ∷ param chars (pointer 1 3) ∷ []) (statement (call 4 (paren (name 6 4)) (name 1 5 ∷ [])) ∷ []) ∷ []) ≡ None
unfolding occurrences as_often
hidden_type = refl

-- typedef int T; void (*f(int T))(T x){ x = 1; T = 1; }: the second T is the type, and f's own parameter is called T in the body
own_parameters : List Node
own_parameters =
    declaration (stored words.Typedef words.Int) (plain 6 1 ∷ [])
    ∷ function voids (nested [] (declarator (star ∷ []) 0 2 (params (param ints (pointer 6 3) ∷ []) ∷ [])) (params (param (specs (type_name 6 ∷ [])) (plain 1 4) ∷ []) ∷ [])) (statement (assigned 5 (name 6 5) (decimal 1)) ∷ statement (name 1 6) ∷ [])
    ∷ []

own_parameters_alone : fault_of own_parameters ≡ Some (Undeclared (at 6) 1)
unfolding own_parameters occurrences as_often
own_parameters_alone = refl

-- behind the function T is the type again, and f a function giving a pointer to a function
function_declared : type_behind own_parameters (name 0 0) ≡ Some (Func (Pointer (Func Void)))
unfolding own_parameters occurrences as_often
function_declared = refl

-- void f(struct s *p){ struct s { int a; } x; p->a; }: parameters' tags are those of the body
tag_of_parameters : fault_of (f_with (param (specs (tag which_word.Struct 5 1 ∷ [])) (pointer 3 1) ∷ []) (declaration (specs (tagged_body which_word.Struct 5 2 (member ints (plain 7 3 ∷ []) ∷ []) ∷ [])) (plain 1 4 ∷ []) ∷ statement (arrow 5 (name 3 5) 7) ∷ []) ∷ []) ≡ None
unfolding occurrences as_often
tag_of_parameters = refl

-- int x = x; and int x[sizeof(int[x])];: a name is in force from the end of its declarator
in_its_initializer : fault_of (declaration ints (initialized 1 1 (name 1 2) ∷ []) ∷ []) ≡ None
unfolding occurrences as_often
in_its_initializer = refl

in_its_bound : fault_of (declaration ints (declarator [] 1 1 (bound (present (name 1 2)) ∷ []) ∷ []) ∷ []) ≡ Some (Undeclared (at 2) 1)
unfolding occurrences as_often
in_its_bound = refl

-- int x; typedef int x[y];: the bound comes before the Redeclared
bound_before_name : fault_of (declaration ints (plain 1 1 ∷ []) ∷ declaration (stored words.Typedef words.Int) (declarator [] 1 2 (bound (present (name 2 3)) ∷ []) ∷ []) ∷ []) ≡ Some (Undeclared (at 3) 2)
unfolding occurrences as_often
bound_before_name = refl

-- void f(void){ for (int x = 0; x; ) ; x = 1; }
declared_in_for : fault_of (f_with [] (for_in (declaration ints (initialized 1 1 (decimal 0) ∷ [])) (name 1 2) (block []) ∷ statement (assigned 3 (name 1 3) (decimal 1)) ∷ []) ∷ []) ≡ Some (Undeclared (at 3) 1)
unfolding occurrences as_often
declared_in_for = refl

-- sizeof(struct s *), p: a tag first named in an expression is in force behind it
tag_in_expression : type_behind (f_with [] [] ∷ statement (sizeof (type_in (specs (tag which_word.Struct 5 1 ∷ [])) absent)) ∷ declaration (specs (tag which_word.Struct 9 2 ∷ [])) (pointer 3 3 ∷ []) ∷ declaration (specs (tag which_word.Struct 5 3 ∷ [])) (pointer 4 4 ∷ []) ∷ []) (name 4 0) ≡ Some (Pointer (Struct 0))
unfolding occurrences as_often
tag_in_expression = refl

-- Variables. static int x; int x; then extern int x in a block
static_x : Node
static_x = declaration (stored words.Static words.Int) (plain 1 1 ∷ [])

file_static : var_behind (static_x ∷ []) (name 1 0) ≡ Some (FileStatic 0 1)
unfolding static_x occurrences as_often
file_static = refl

extern_behind_static : var_behind (static_x ∷ declaration (stored words.Extern words.Int) (plain 1 2 ∷ []) ∷ []) (name 1 0) ≡ Some (FileStatic 0 1)
unfolding static_x occurrences as_often
extern_behind_static = refl

plain_behind_static : var_behind (static_x ∷ declaration ints (plain 1 2 ∷ []) ∷ []) (name 1 0) ≡ Some (Extern 1)
unfolding static_x occurrences as_often
plain_behind_static = refl

-- a function is no variable
function_is_no_variable : var_behind (declaration ints (declarator [] 0 0 (no_params ∷ []) ∷ []) ∷ []) (name 0 0) ≡ None
unfolding occurrences as_often
function_is_no_variable = refl

-- in a block, `extern int x` names the visible static; one that sees that one, the same
extern_in_block : var_inside (static_x ∷ []) (declaration (stored words.Extern words.Int) (plain 1 2 ∷ []) ∷ []) (name 1 0) ≡ Some (FileStatic 0 1)
unfolding static_x occurrences as_often
extern_in_block = refl

extern_in_inner_block : var_within (inside (inside (behind (static_x ∷ [])) (declaration (stored words.Extern words.Int) (plain 1 2 ∷ []) ∷ [])) (declaration (stored words.Extern words.Int) (plain 1 3 ∷ []) ∷ [])) (name 1 0) ≡ Some (FileStatic 0 1)
unfolding static_x occurrences as_often
extern_in_inner_block = refl

-- where a local hides the static, `extern` is external
extern_behind_local : var_within (inside (inside (behind (static_x ∷ [])) (declaration ints (plain 1 2 ∷ []) ∷ [])) (declaration (stored words.Extern words.Int) (plain 1 3 ∷ []) ∷ [])) (name 1 0) ≡ Some (Extern 1)
unfolding static_x occurrences as_often
extern_behind_local = refl

-- int x; static int x; register int x; in a block
local : var_inside [] (declaration ints (plain 1 2 ∷ []) ∷ []) (name 1 0) ≡ Some (Local 0 2 1)
unfolding occurrences as_often
local = refl

local_static : var_inside [] (declaration (stored words.Static words.Int) (plain 1 2 ∷ []) ∷ []) (name 1 0) ≡ Some (LocalStatic 0 2 1)
unfolding occurrences as_often
local_static = refl

register_local : var_inside [] (declaration (stored words.Register words.Int) (plain 1 2 ∷ []) ∷ []) (name 1 0) ≡ Some (Local 0 2 1)
unfolding occurrences as_often
register_local = refl

-- an enumerator is no variable, and has the type int
enumerator_is_int : type_behind (declaration (specs (enumeration (enumerated 7 1 absent ∷ []) ∷ [])) [] ∷ []) (name 7 0) ≡ Some int
enumerator_is_int = refl

enumerator_is_no_variable : var_behind (declaration (specs (enumeration (enumerated 7 1 absent ∷ []) ∷ [])) [] ∷ []) (name 7 0) ≡ None
enumerator_is_no_variable = refl

-- struct s *p; { struct s; struct s *q; }: q isn't of the type of p
new_tag_inside : type_of (inside (behind (declaration (specs (tag which_word.Struct 5 1 ∷ [])) (pointer 3 2 ∷ []) ∷ [])) (declaration (specs (tag which_word.Struct 5 1 ∷ [])) [] ∷ declaration (specs (tag which_word.Struct 5 3 ∷ [])) (pointer 4 4 ∷ []) ∷ [])) Plain (flat (name 4 0)) ≡ Some (Pointer (Struct 1))
new_tag_inside = refl

-- and without `struct s;` it is
same_tag_inside : type_of (inside (behind (declaration (specs (tag which_word.Struct 5 1 ∷ [])) (pointer 3 2 ∷ []) ∷ [])) (declaration (specs (tag which_word.Struct 5 3 ∷ [])) (pointer 4 4 ∷ []) ∷ [])) Plain (flat (name 4 0)) ≡ Some (Pointer (Struct 0))
same_tag_inside = refl

-- void f(int x[2], int y(void)){ x = 0; y = 0; }: both are pointers, so they are lvalues
adjusted_parameters : fault_of (f_with (param ints (declarator [] 1 1 (bound (present (decimal 2)) ∷ [])) ∷ param ints (declarator [] 2 2 (no_params ∷ [])) ∷ []) (statement (assigned 3 (name 1 3) (decimal 0)) ∷ statement (assigned 4 (name 2 4) (decimal 0)) ∷ []) ∷ []) ≡ None
unfolding occurrences as_often
adjusted_parameters = refl

-- void f(int y(void)){ int y(void); }: the parameter is a pointer by then, and no function
function_parameter_again : fault_of (f_with (param ints (declarator [] 2 1 (no_params ∷ [])) ∷ []) (declaration ints (declarator [] 2 2 (no_params ∷ []) ∷ []) ∷ []) ∷ []) ≡ Some (Redeclared (at 2) 2)
unfolding occurrences as_often
function_parameter_again = refl

-- int (f)(int x){ x; } and int (f(int x)){ x; }
name_in_parentheses : fault_of (function ints (nested [] (plain 0 0) (params (param ints (plain 1 1) ∷ []) ∷ [])) (statement (name 1 2) ∷ []) ∷ []) ≡ None
unfolding occurrences as_often
name_in_parentheses = refl

all_in_parentheses : fault_of (function ints (nested [] (declarator [] 0 0 (params (param ints (plain 1 1) ∷ []) ∷ [])) []) (statement (name 1 2) ∷ []) ∷ []) ≡ None
unfolding occurrences as_often
all_in_parentheses = refl

-- int (*(f)(int x))(int y){ x; y; }: x is a parameter of f, and y one of what f gives
parameter_of_result : fault_of (function ints (nested [] (nested (star ∷ []) (plain 0 0) (params (param ints (plain 1 1) ∷ []) ∷ [])) (params (param ints (plain 2 2) ∷ []) ∷ [])) (statement (name 1 3) ∷ statement (name 2 4) ∷ []) ∷ []) ≡ Some (Undeclared (at 4) 2)
unfolding occurrences as_often
parameter_of_result = refl

-- void f(int (*y)(int x)){ x; }
parameter_of_parameter : fault_of (f_with (param ints (nested [] (pointer 2 0) (params (param ints (plain 1 1) ∷ []) ∷ [])) ∷ []) (statement (name 1 2) ∷ []) ∷ []) ≡ Some (Undeclared (at 2) 1)
unfolding occurrences as_often
parameter_of_parameter = refl

-- void f(int x){ } void p(void){ x; }
parameters_end : fault_of (f_with (param ints (plain 1 1) ∷ []) [] ∷ function voids (declarator [] 3 1 (no_params ∷ [])) (statement (name 1 2) ∷ []) ∷ []) ≡ Some (Undeclared (at 2) 1)
unfolding occurrences as_often
parameters_end = refl

-- int f(int f){ f = 1; }
parameter_like_function : fault_of (function ints (declarator [] 0 0 (params (param ints (plain 0 1) ∷ []) ∷ [])) (statement (assigned 2 (name 0 2) (decimal 1)) ∷ []) ∷ []) ≡ None
unfolding occurrences as_often
parameter_like_function = refl

-- void f(struct s *p, union s *q); and void f(struct s *p){ union s *q; }: the parameters' tags are of one scope, and the body's
sorts_of_parameters : fault_of (declaration voids (declarator [] 0 0 (params (param (specs (tag which_word.Struct 5 1 ∷ [])) (pointer 3 2) ∷ param (specs (tag which_word.Union 5 3 ∷ [])) (pointer 4 4) ∷ []) ∷ []) ∷ []) ∷ []) ≡ Some (Redeclared (at 3) 5)
unfolding occurrences as_often
sorts_of_parameters = refl

sorts_of_body : fault_of (f_with (param (specs (tag which_word.Struct 5 1 ∷ [])) (pointer 3 2) ∷ []) (declaration (specs (tag which_word.Union 5 3 ∷ [])) (pointer 4 4 ∷ []) ∷ []) ∷ []) ≡ Some (Redeclared (at 3) 5)
unfolding occurrences as_often
sorts_of_body = refl

-- x(); x;: a call declares nothing
call_declares_nothing : fault_of (f_with [] (statement (call 1 (name 1 1) []) ∷ statement (name 1 2) ∷ []) ∷ []) ≡ Some (Undeclared (at 2) 1)
unfolding occurrences as_often
call_declares_nothing = refl

-- int x(void); int x; enum { x };: functions and variables are one class, enumerators another
function_and_variable : fault_of (declaration ints (declarator [] 1 1 (no_params ∷ []) ∷ []) ∷ declaration ints (plain 1 2 ∷ []) ∷ declaration (specs (enumeration (enumerated 1 3 absent ∷ []) ∷ [])) [] ∷ []) ≡ Some (Redeclared (at 3) 1)
unfolding occurrences as_often
function_and_variable = refl

-- int x; char x;: the latest type counts
latest_type : type_behind (declaration ints (plain 1 1 ∷ []) ∷ declaration chars (plain 1 2 ∷ []) ∷ []) (name 1 0) ≡ Some (Arith kind.Char)
unfolding occurrences as_often
latest_type = refl

-- for (int x, x; x; ) ; and for (int x; x; ) { int x; }
twice_in_for : fault_of (f_with [] (for_in (declaration ints (plain 1 1 ∷ plain 1 2 ∷ [])) (name 1 3) (block []) ∷ []) ∷ []) ≡ Some (Redeclared (at 2) 1)
unfolding occurrences as_often
twice_in_for = refl

hidden_in_for : fault_of (f_with [] (for_in (declaration ints (plain 1 1 ∷ [])) (name 1 3) (block (declaration ints (plain 1 4 ∷ []) ∷ [])) ∷ []) ∷ []) ≡ None
unfolding occurrences as_often
hidden_in_for = refl

-- static int x; void f(void){ extern int x; extern int x; int x; }
extern_then_local : fault_of (static_x ∷ f_with [] (declaration (stored words.Extern words.Int) (plain 1 2 ∷ []) ∷ declaration (stored words.Extern words.Int) (plain 1 3 ∷ []) ∷ declaration ints (plain 1 4 ∷ []) ∷ []) ∷ []) ≡ Some (Redeclared (at 4) 1)
unfolding static_x occurrences as_often
extern_then_local = refl

-- a `static` of a block hides that of the file
extern_behind_local_static : var_within (inside (inside (behind (static_x ∷ [])) (declaration (stored words.Static words.Int) (plain 1 2 ∷ []) ∷ [])) (declaration (stored words.Extern words.Int) (plain 1 3 ∷ []) ∷ [])) (name 1 0) ≡ Some (Extern 1)
unfolding static_x occurrences as_often
extern_behind_local_static = refl

-- auto int x; and extern int x = 1; at file scope
auto_in_file : var_behind (declaration (stored words.Auto words.Int) (plain 1 1 ∷ []) ∷ []) (name 1 0) ≡ Some (Extern 1)
unfolding occurrences as_often
auto_in_file = refl

extern_initialized : var_behind (declaration (stored words.Extern words.Int) (initialized 1 1 (decimal 1) ∷ []) ∷ []) (name 1 0) ≡ Some (Extern 1)
unfolding occurrences as_often
extern_initialized = refl

-- typedef int T = x;: the initializer is typed
type_initialized : fault_of (declaration (stored words.Typedef words.Int) (initialized 6 1 (name 1 2) ∷ []) ∷ []) ≡ Some (Undeclared (at 2) 1)
unfolding occurrences as_often
type_initialized = refl

-- struct { struct { int a; }; int a; } x;
member_behind_unnamed : fault_of (declaration (specs (body which_word.Struct (member (specs (body which_word.Struct (member ints (plain 7 1 ∷ []) ∷ []) ∷ [])) [] ∷ member ints (plain 7 2 ∷ []) ∷ []) ∷ [])) (plain 1 3 ∷ []) ∷ []) ≡ Some (Redeclared (at 2) 7)
unfolding occurrences as_often
member_behind_unnamed = refl

-- struct { struct { int a; }; struct { int b; union { int a; }; }; } x;
member_two_deep_twice : fault_of (declaration (specs (body which_word.Struct (member (specs (body which_word.Struct (member ints (plain 7 1 ∷ []) ∷ []) ∷ [])) [] ∷ member (specs (body which_word.Struct (member ints (plain 8 2 ∷ []) ∷ member (specs (body which_word.Union (member ints (plain 7 3 ∷ []) ∷ []) ∷ [])) [] ∷ []) ∷ [])) [] ∷ []) ∷ [])) (plain 1 4 ∷ []) ∷ []) ≡ Some (Redeclared (at 3) 7)
unfolding occurrences as_often
member_two_deep_twice = refl

-- struct s *p; struct s { int a; int b[sizeof p->a]; };: the structure is complete behind its body alone
incomplete_in_its_body : fault_of (declaration (specs (tag which_word.Struct 5 1 ∷ [])) (pointer 3 2 ∷ []) ∷ declaration (specs (tagged_body which_word.Struct 5 3 (member ints (plain 7 4 ∷ declarator [] 8 5 (bound (present (unary prefix.Sizeof 6 (arrow 7 (name 3 7) 7))) ∷ []) ∷ []) ∷ []) ∷ [])) [] ∷ []) ≡ Some (NotStruct (at 7))
unfolding occurrences as_often
incomplete_in_its_body = refl

-- struct s { int a; } x; void f(void){ SPECIFIERS; struct s *p; p->a; }
behind_mention : List Node → List Node
behind_mention items =
    declaration (specs (tagged_body which_word.Struct 5 1 (member ints (plain 7 2 ∷ []) ∷ []) ∷ [])) (plain 1 3 ∷ [])
    ∷ f_with [] (declaration (specs items) [] ∷ declaration (specs (tag which_word.Struct 5 5 ∷ [])) (pointer 3 6 ∷ []) ∷ statement (arrow 7 (name 3 7) 7) ∷ [])
    ∷ []

-- struct s; alone is a new tag, and const struct s; is the visible one
struct_alone : fault_of (behind_mention (tag which_word.Struct 5 4 ∷ [])) ≡ Some (NotStruct (at 7))
unfolding behind_mention occurrences as_often
struct_alone = refl

struct_not_alone : fault_of (behind_mention (keyword words.Const ∷ tag which_word.Struct 5 4 ∷ [])) ≡ None
unfolding behind_mention occurrences as_often
struct_not_alone = refl

-- int *a[2], (*b)[2], *(*c(void))[2];
three_declarators : List Node
three_declarators = declaration ints (declarator (star ∷ []) 7 0 (bound (present (decimal 2)) ∷ []) ∷ nested [] (pointer 8 0) (bound (present (decimal 2)) ∷ []) ∷ nested (star ∷ []) (declarator (star ∷ []) 9 0 (no_params ∷ [])) (bound (present (decimal 2)) ∷ []) ∷ []) ∷ []

array_of_pointers : type_behind three_declarators (name 7 0) ≡ Some (Array (Pointer int))
unfolding three_declarators occurrences as_often
array_of_pointers = refl

pointer_to_array : type_behind three_declarators (name 8 0) ≡ Some (Pointer (Array int))
unfolding three_declarators occurrences as_often
pointer_to_array = refl

function_to_array : type_behind three_declarators (name 9 0) ≡ Some (Func (Pointer (Array (Pointer int))))
unfolding three_declarators occurrences as_often
function_to_array = refl
