-- Texts that are read, and texts that are refused. T is a type where `types` are in force, x, y, f and g are other names.
use Rattle.std.proofs.Common.{◌≡◌, true, false, [], ◌∷◌, None, Some, refl}
use Rattle.c_tree.specs.declared.keyword.Keyword.TheVariants as words
use Rattle.c_tree.specs.declared.operator.AssignOp.TheVariants as assign
use Rattle.c_tree.specs.declared.operator.BinaryOp.TheVariants as binary
use Rattle.c_tree.specs.declared.operator.UnaryOp.TheVariants as unary
use Rattle.c_tree.specs.declared.operator.StructOrUnion.TheVariants as which_word
use Rattle.c_tree.specs.declared.punctuator.Punctuator.TheVariants as marks
use Rattle.c_tree.specs.Symbol.{Symbol, Word, Reserved, Sign, IntLiteral, StringLiteral}
use Rattle.c_tree.specs.Syntax.{Syntax, Primary, Operation, Specifier, Declarator, Part, Ident, Constant, StrConst, Paren, VaArg, Offsetof, Index, Call, Member, Arrow, Unary, SizeofType, Cast, Binary, Cond, Assign, TypeName, Specs, StructTag, Param, Named, Nested, Unnamed, SpecWord, ArrayBound, VoidParams, Params, MemberDesignator, IndexDesignator, absent, present, no_more, more}
use Rattle.c_grammar.specs.Symbols.{run_of, after_run}
use Rattle.c_grammar.specs.Names.{Names, is_type}
use Rattle.c_grammar.specs.Specifiers.{InTypeName, InParam, InDeclaration, type_words, other_types, storages, inlines, occurrences, as_often, is_among}
use Rattle.c_grammar.specs.Nonterminal.{WithName, Expression, Specifiers, NameOfType, DeclaratorIn, Parameter}
use Rattle.c_grammar.specs.Ways.SpecifierSteps.{read_items}
use Rattle.c_grammar.specs.Ways.DeclaratorSteps.{read_params, read_suffixes}
use Rattle.c_grammar.specs.Ways.ExpressionSteps.{read_path, read_more_arguments, read_postfix_operators, read_chain, read_binary}
use Rattle.c_grammar.specs.Reading.{read, whole}

abbrev T : Symbol
T = Word 0

abbrev x : Symbol
x = Word 1

abbrev y : Symbol
y = Word 2

abbrev f : Symbol
f = Word 3

abbrev g : Symbol
g = Word 4

abbrev types : Names
types = (0, true) ∷ []

abbrev left : Symbol
left = Sign marks.OpenParen

abbrev right : Symbol
right = Sign marks.CloseParen

abbrev star : Symbol
star = Sign marks.Star

abbrev int : Symbol
int = Reserved words.Int

abbrev void : Symbol
void = Reserved words.Void

abbrev equals : Symbol
equals = Sign marks.Assign

abbrev comma : Symbol
comma = Sign marks.Comma

abbrev ident : Symbol → Syntax
ident s = Primary (Ident s)

abbrev one_word : Symbol → Syntax
one_word s = Specifier (Specs (more (Part (SpecWord s)) no_more))

abbrev type_of : Symbol → Syntax
type_of s = Specifier (TypeName (one_word s) absent)

-- x + y * f
precedence : whole (Expression 15) [] (x ∷ Sign marks.Plus ∷ y ∷ star ∷ f ∷ []) ≡ Some (Operation (Binary binary.Add (ident x) (Operation (Binary binary.Multiply (ident y) (ident f)))))
unfolding read read_binary read_chain read_postfix_operators read_more_arguments read_path read_items read_suffixes read_params run_of after_run is_type type_words other_types storages inlines occurrences as_often is_among
precedence = refl

-- x - y - f
to_the_left : whole (Expression 15) [] (x ∷ Sign marks.Minus ∷ y ∷ Sign marks.Minus ∷ f ∷ []) ≡ Some (Operation (Binary binary.Subtract (Operation (Binary binary.Subtract (ident x) (ident y))) (ident f)))
unfolding read read_binary read_chain read_postfix_operators read_more_arguments read_path read_items read_suffixes read_params run_of after_run is_type type_words other_types storages inlines occurrences as_often is_among
to_the_left = refl

-- x || y && f | g
levels : whole (Expression 15) [] (x ∷ Sign marks.OrOr ∷ y ∷ Sign marks.AndAnd ∷ f ∷ Sign marks.Bar ∷ g ∷ []) ≡ Some (Operation (Binary binary.LogOr (ident x) (Operation (Binary binary.LogAnd (ident y) (Operation (Binary binary.BitOr (ident f) (ident g)))))))
unfolding read read_binary read_chain read_postfix_operators read_more_arguments read_path read_items read_suffixes read_params run_of after_run is_type type_words other_types storages inlines occurrences as_often is_among
levels = refl

-- x, y = f, g
commas : whole (Expression 15) [] (x ∷ comma ∷ y ∷ equals ∷ f ∷ comma ∷ g ∷ []) ≡ Some (Operation (Binary binary.Comma (Operation (Binary binary.Comma (ident x) (Operation (Assign assign.Plain (ident y) (ident f))))) (ident g)))
unfolding read read_binary read_chain read_postfix_operators read_more_arguments read_path read_items read_suffixes read_params run_of after_run is_type type_words other_types storages inlines occurrences as_often is_among
commas = refl

-- x = y = f
assignments : whole (Expression 15) [] (x ∷ equals ∷ y ∷ equals ∷ f ∷ []) ≡ Some (Operation (Assign assign.Plain (ident x) (Operation (Assign assign.Plain (ident y) (ident f)))))
unfolding read read_binary read_chain read_postfix_operators read_more_arguments read_path read_items read_suffixes read_params run_of after_run is_type type_words other_types storages inlines occurrences as_often is_among
assignments = refl

-- at the level of assignments no comma is read: x, y
no_comma_in_assignment : whole (Expression 14) [] (x ∷ comma ∷ y ∷ []) ≡ None
unfolding read read_binary read_chain read_postfix_operators read_more_arguments read_path read_items read_suffixes read_params run_of after_run is_type type_words other_types storages inlines occurrences as_often is_among
no_comma_in_assignment = refl

-- x ? y : f ? g : x
conditionals : whole (Expression 15) [] (x ∷ Sign marks.Question ∷ y ∷ Sign marks.Colon ∷ f ∷ Sign marks.Question ∷ g ∷ Sign marks.Colon ∷ x ∷ []) ≡ Some (Operation (Cond (ident x) (ident y) (Operation (Cond (ident f) (ident g) (ident x)))))
unfolding read read_binary read_chain read_postfix_operators read_more_arguments read_path read_items read_suffixes read_params run_of after_run is_type type_words other_types storages inlines occurrences as_often is_among
conditionals = refl

-- x ? y, f : g
comma_in_conditional : whole (Expression 15) [] (x ∷ Sign marks.Question ∷ y ∷ comma ∷ f ∷ Sign marks.Colon ∷ g ∷ []) ≡ Some (Operation (Cond (ident x) (Operation (Binary binary.Comma (ident y) (ident f))) (ident g)))
unfolding read read_binary read_chain read_postfix_operators read_more_arguments read_path read_items read_suffixes read_params run_of after_run is_type type_words other_types storages inlines occurrences as_often is_among
comma_in_conditional = refl

-- *x++
stars : whole (Expression 15) [] (star ∷ x ∷ Sign marks.Increment ∷ []) ≡ Some (Operation (Unary unary.Deref (Operation (Unary unary.PostInc (ident x)))))
unfolding read read_binary read_chain read_postfix_operators read_more_arguments read_path read_items read_suffixes read_params run_of after_run is_type type_words other_types storages inlines occurrences as_often is_among
stars = refl

-- - - x
signs : whole (Expression 15) [] (Sign marks.Minus ∷ Sign marks.Minus ∷ x ∷ []) ≡ Some (Operation (Unary unary.Minus (Operation (Unary unary.Minus (ident x)))))
unfolding read read_binary read_chain read_postfix_operators read_more_arguments read_path read_items read_suffixes read_params run_of after_run is_type type_words other_types storages inlines occurrences as_often is_among
signs = refl

-- *x = y
assigned_through : whole (Expression 15) [] (star ∷ x ∷ equals ∷ y ∷ []) ≡ Some (Operation (Assign assign.Plain (Operation (Unary unary.Deref (ident x))) (ident y)))
unfolding read read_binary read_chain read_postfix_operators read_more_arguments read_path read_items read_suffixes read_params run_of after_run is_type type_words other_types storages inlines occurrences as_often is_among
assigned_through = refl

-- x + y = f is no expression
sum_unassigned : whole (Expression 15) [] (x ∷ Sign marks.Plus ∷ y ∷ equals ∷ f ∷ []) ≡ None
unfolding read read_binary read_chain read_postfix_operators read_more_arguments read_path read_items read_suffixes read_params run_of after_run is_type type_words other_types storages inlines occurrences as_often is_among
sum_unassigned = refl

-- x ? y : f = g is none
conditional_unassigned : whole (Expression 15) [] (x ∷ Sign marks.Question ∷ y ∷ Sign marks.Colon ∷ f ∷ equals ∷ g ∷ []) ≡ None
unfolding read read_binary read_chain read_postfix_operators read_more_arguments read_path read_items read_suffixes read_params run_of after_run is_type type_words other_types storages inlines occurrences as_often is_among
conditional_unassigned = refl

-- (T)x = y is none
cast_unassigned : whole (Expression 15) types (left ∷ T ∷ right ∷ x ∷ equals ∷ y ∷ []) ≡ None
unfolding read read_binary read_chain read_postfix_operators read_more_arguments read_path read_items read_suffixes read_params run_of after_run is_type type_words other_types storages inlines occurrences as_often is_among
cast_unassigned = refl

-- ++(T)x is none
increment_of_cast : whole (Expression 15) types (Sign marks.Increment ∷ left ∷ T ∷ right ∷ x ∷ []) ≡ None
unfolding read read_binary read_chain read_postfix_operators read_more_arguments read_path read_items read_suffixes read_params run_of after_run is_type type_words other_types storages inlines occurrences as_often is_among
increment_of_cast = refl

-- (T)(x) with T a type
cast : whole (Expression 15) types (left ∷ T ∷ right ∷ left ∷ x ∷ right ∷ []) ≡ Some (Operation (Cast (type_of T) (Primary (Paren (ident x)))))
unfolding read read_binary read_chain read_postfix_operators read_more_arguments read_path read_items read_suffixes read_params run_of after_run is_type type_words other_types storages inlines occurrences as_often is_among
cast = refl

-- (x)(y)
call : whole (Expression 15) types (left ∷ x ∷ right ∷ left ∷ y ∷ right ∷ []) ≡ Some (Operation (Call (Primary (Paren (ident x))) (more (ident y) no_more)))
unfolding read read_binary read_chain read_postfix_operators read_more_arguments read_path read_items read_suffixes read_params run_of after_run is_type type_words other_types storages inlines occurrences as_often is_among
call = refl

-- (T)(x) where a parameter hides T
hidden_type : whole (Expression 15) ((0, false) ∷ types) (left ∷ T ∷ right ∷ left ∷ x ∷ right ∷ []) ≡ Some (Operation (Call (Primary (Paren (ident T))) (more (ident x) no_more)))
unfolding read read_binary read_chain read_postfix_operators read_more_arguments read_path read_items read_suffixes read_params run_of after_run is_type type_words other_types storages inlines occurrences as_often is_among
hidden_type = refl

-- T + x with T a type is none
type_is_no_value : whole (Expression 15) types (T ∷ Sign marks.Plus ∷ x ∷ []) ≡ None
unfolding read read_binary read_chain read_postfix_operators read_more_arguments read_path read_items read_suffixes read_params run_of after_run is_type type_words other_types storages inlines occurrences as_often is_among
type_is_no_value = refl

-- f(x, y)(f)
calls : whole (Expression 15) [] (f ∷ left ∷ x ∷ comma ∷ y ∷ right ∷ left ∷ f ∷ right ∷ []) ≡ Some (Operation (Call (Operation (Call (ident f) (more (ident x) (more (ident y) no_more)))) (more (ident f) no_more)))
unfolding read read_binary read_chain read_postfix_operators read_more_arguments read_path read_items read_suffixes read_params run_of after_run is_type type_words other_types storages inlines occurrences as_often is_among
calls = refl

-- f()
empty_call : whole (Expression 15) [] (f ∷ left ∷ right ∷ []) ≡ Some (Operation (Call (ident f) no_more))
unfolding read read_binary read_chain read_postfix_operators read_more_arguments read_path read_items read_suffixes read_params run_of after_run is_type type_words other_types storages inlines occurrences as_often is_among
empty_call = refl

-- f(x,) is none
call_after_comma : whole (Expression 15) [] (f ∷ left ∷ x ∷ comma ∷ right ∷ []) ≡ None
unfolding read read_binary read_chain read_postfix_operators read_more_arguments read_path read_items read_suffixes read_params run_of after_run is_type type_words other_types storages inlines occurrences as_often is_among
call_after_comma = refl

-- x[y].f->g--
postfixes : whole (Expression 15) [] (x ∷ Sign marks.OpenBracket ∷ y ∷ Sign marks.CloseBracket ∷ Sign marks.Dot ∷ f ∷ Sign marks.Arrow ∷ g ∷ Sign marks.Decrement ∷ []) ≡ Some (Operation (Unary unary.PostDec (Operation (Arrow (Operation (Member (Operation (Index (ident x) (ident y))) f)) g))))
unfolding read read_binary read_chain read_postfix_operators read_more_arguments read_path read_items read_suffixes read_params run_of after_run is_type type_words other_types storages inlines occurrences as_often is_among
postfixes = refl

-- x.T with T a type
member_named_as_type : whole (Expression 15) types (x ∷ Sign marks.Dot ∷ T ∷ []) ≡ Some (Operation (Member (ident x) T))
unfolding read read_binary read_chain read_postfix_operators read_more_arguments read_path read_items read_suffixes read_params run_of after_run is_type type_words other_types storages inlines occurrences as_often is_among
member_named_as_type = refl

-- sizeof (T) * x with T a type
sizeof_product : whole (Expression 15) types (Reserved words.Sizeof ∷ left ∷ T ∷ right ∷ star ∷ x ∷ []) ≡ Some (Operation (Binary binary.Multiply (Operation (SizeofType (type_of T))) (ident x)))
unfolding read read_binary read_chain read_postfix_operators read_more_arguments read_path read_items read_suffixes read_params run_of after_run is_type type_words other_types storages inlines occurrences as_often is_among
sizeof_product = refl

-- sizeof (T) * x with T no type
sizeof_value_product : whole (Expression 15) [] (Reserved words.Sizeof ∷ left ∷ T ∷ right ∷ star ∷ x ∷ []) ≡ Some (Operation (Binary binary.Multiply (Operation (Unary unary.Sizeof (Primary (Paren (ident T))))) (ident x)))
unfolding read read_binary read_chain read_postfix_operators read_more_arguments read_path read_items read_suffixes read_params run_of after_run is_type type_words other_types storages inlines occurrences as_often is_among
sizeof_value_product = refl

-- sizeof (T) x is none
sizeof_cast : whole (Expression 15) types (Reserved words.Sizeof ∷ left ∷ T ∷ right ∷ x ∷ []) ≡ None
unfolding read read_binary read_chain read_postfix_operators read_more_arguments read_path read_items read_suffixes read_params run_of after_run is_type type_words other_types storages inlines occurrences as_often is_among
sizeof_cast = refl

-- sizeof sizeof x[y]
sizeof_sizeof : whole (Expression 15) [] (Reserved words.Sizeof ∷ Reserved words.Sizeof ∷ x ∷ Sign marks.OpenBracket ∷ y ∷ Sign marks.CloseBracket ∷ []) ≡ Some (Operation (Unary unary.Sizeof (Operation (Unary unary.Sizeof (Operation (Index (ident x) (ident y)))))))
unfolding read read_binary read_chain read_postfix_operators read_more_arguments read_path read_items read_suffixes read_params run_of after_run is_type type_words other_types storages inlines occurrences as_often is_among
sizeof_sizeof = refl

-- "a" L"b"
strings : whole (Expression 15) [] (StringLiteral false 7 ∷ StringLiteral true 8 ∷ []) ≡ Some (Primary (StrConst (StringLiteral false 7 ∷ StringLiteral true 8 ∷ [])))
unfolding read read_binary read_chain read_postfix_operators read_more_arguments read_path read_items read_suffixes read_params run_of after_run is_type type_words other_types storages inlines occurrences as_often is_among
strings = refl

-- __builtin_va_arg(x, T *)
va_arg : whole (Expression 15) types (Reserved words.BuiltinVaArg ∷ left ∷ x ∷ comma ∷ T ∷ star ∷ right ∷ []) ≡ Some (Primary (VaArg (ident x) (Specifier (TypeName (Specifier (Specs (more (Part (SpecWord (T))) no_more))) (present (Declarator (Unnamed (star ∷ []) no_more)))))))
unfolding read read_binary read_chain read_postfix_operators read_more_arguments read_path read_items read_suffixes read_params run_of after_run is_type type_words other_types storages inlines occurrences as_often is_among
va_arg = refl

-- __builtin_offsetof(struct x, y.T[f])
offsetof : whole (Expression 15) types (Reserved words.BuiltinOffsetof ∷ left ∷ Reserved words.Struct ∷ x ∷ comma ∷ y ∷ Sign marks.Dot ∷ T ∷ Sign marks.OpenBracket ∷ f ∷ Sign marks.CloseBracket ∷ right ∷ []) ≡ Some (Primary (Offsetof (Specifier (TypeName (Specifier (Specs (more (Specifier (StructTag which_word.Struct x)) no_more))) absent)) y (more (Part (MemberDesignator T)) (more (Part (IndexDesignator (ident f))) no_more))))
unfolding read read_binary read_chain read_postfix_operators read_more_arguments read_path read_items read_suffixes read_params run_of after_run is_type type_words other_types storages inlines occurrences as_often is_among
offsetof = refl

-- unsigned long int long
any_order : whole (Specifiers InTypeName) [] (Reserved words.Unsigned ∷ Reserved words.Long ∷ int ∷ Reserved words.Long ∷ []) ≡ Some (Specifier (Specs (more (Part (SpecWord (Reserved words.Unsigned))) (more (Part (SpecWord (Reserved words.Long))) (more (Part (SpecWord (int))) (more (Part (SpecWord (Reserved words.Long))) no_more))))))
unfolding read read_binary read_chain read_postfix_operators read_more_arguments read_path read_items read_suffixes read_params run_of after_run is_type type_words other_types storages inlines occurrences as_often is_among
any_order = refl

-- unsigned char char is no type
two_chars : whole (Specifiers InTypeName) [] (Reserved words.Unsigned ∷ Reserved words.Char ∷ Reserved words.Char ∷ []) ≡ None
unfolding read read_binary read_chain read_postfix_operators read_more_arguments read_path read_items read_suffixes read_params run_of after_run is_type type_words other_types storages inlines occurrences as_often is_among
two_chars = refl

-- short double is none
short_double : whole (Specifiers InTypeName) [] (Reserved words.Short ∷ Reserved words.Double ∷ []) ≡ None
unfolding read read_binary read_chain read_postfix_operators read_more_arguments read_path read_items read_suffixes read_params run_of after_run is_type type_words other_types storages inlines occurrences as_often is_among
short_double = refl

-- long long long is none
three_longs : whole (Specifiers InTypeName) [] (Reserved words.Long ∷ Reserved words.Long ∷ Reserved words.Long ∷ []) ≡ None
unfolding read read_binary read_chain read_postfix_operators read_more_arguments read_path read_items read_suffixes read_params run_of after_run is_type type_words other_types storages inlines occurrences as_often is_among
three_longs = refl

-- const alone has no type
no_type : whole (Specifiers InTypeName) [] (Reserved words.Const ∷ []) ≡ None
unfolding read read_binary read_chain read_postfix_operators read_more_arguments read_path read_items read_suffixes read_params run_of after_run is_type type_words other_types storages inlines occurrences as_often is_among
no_type = refl

-- const T volatile
qualified : whole (Specifiers InTypeName) types (Reserved words.Const ∷ T ∷ Reserved words.Volatile ∷ []) ≡ Some (Specifier (Specs (more (Part (SpecWord (Reserved words.Const))) (more (Part (SpecWord (T))) (more (Part (SpecWord (Reserved words.Volatile))) no_more)))))
unfolding read read_binary read_chain read_postfix_operators read_more_arguments read_path read_items read_suffixes read_params run_of after_run is_type type_words other_types storages inlines occurrences as_often is_among
qualified = refl

-- T int has two types
type_and_word : whole (Specifiers InTypeName) types (T ∷ int ∷ []) ≡ None
unfolding read read_binary read_chain read_postfix_operators read_more_arguments read_path read_items read_suffixes read_params run_of after_run is_type type_words other_types storages inlines occurrences as_often is_among
type_and_word = refl

-- static int is no type name
storage_in_type_name : whole (Specifiers InTypeName) [] (Reserved words.Static ∷ int ∷ []) ≡ None
unfolding read read_binary read_chain read_postfix_operators read_more_arguments read_path read_items read_suffixes read_params run_of after_run is_type type_words other_types storages inlines occurrences as_often is_among
storage_in_type_name = refl

-- register int in a parameter
register_in_param : whole (Specifiers InParam) [] (Reserved words.Register ∷ int ∷ []) ≡ Some (Specifier (Specs (more (Part (SpecWord (Reserved words.Register))) (more (Part (SpecWord (int))) no_more))))
unfolding read read_binary read_chain read_postfix_operators read_more_arguments read_path read_items read_suffixes read_params run_of after_run is_type type_words other_types storages inlines occurrences as_often is_among
register_in_param = refl

-- static int isn't allowed there
static_in_param : whole (Specifiers InParam) [] (Reserved words.Static ∷ int ∷ []) ≡ None
unfolding read read_binary read_chain read_postfix_operators read_more_arguments read_path read_items read_suffixes read_params run_of after_run is_type type_words other_types storages inlines occurrences as_often is_among
static_in_param = refl

-- static inline T in a declaration
static_inline : whole (Specifiers InDeclaration) types (Reserved words.Static ∷ Reserved words.Inline ∷ T ∷ []) ≡ Some (Specifier (Specs (more (Part (SpecWord (Reserved words.Static))) (more (Part (SpecWord (Reserved words.Inline))) (more (Part (SpecWord (T))) no_more)))))
unfolding read read_binary read_chain read_postfix_operators read_more_arguments read_path read_items read_suffixes read_params run_of after_run is_type type_words other_types storages inlines occurrences as_often is_among
static_inline = refl

-- extern static int isn't allowed there
two_storages : whole (Specifiers InDeclaration) [] (Reserved words.Extern ∷ Reserved words.Static ∷ int ∷ []) ≡ None
unfolding read read_binary read_chain read_postfix_operators read_more_arguments read_path read_items read_suffixes read_params run_of after_run is_type type_words other_types storages inlines occurrences as_often is_among
two_storages = refl

-- T T as specifiers: behind a type T is no type
redeclared : whole (Specifiers InDeclaration) types (T ∷ T ∷ []) ≡ None
unfolding read read_binary read_chain read_postfix_operators read_more_arguments read_path read_items read_suffixes read_params run_of after_run is_type type_words other_types storages inlines occurrences as_often is_among
redeclared = refl

-- struct x { has no parse here
struct_body : whole (Specifiers InTypeName) [] (Reserved words.Struct ∷ x ∷ Sign marks.OpenBrace ∷ []) ≡ None
unfolding read read_binary read_chain read_postfix_operators read_more_arguments read_path read_items read_suffixes read_params run_of after_run is_type type_words other_types storages inlines occurrences as_often is_among
struct_body = refl

-- (*f[3])(int (*)(void), ...)
declarator : whole (DeclaratorIn WithName) [] (left ∷ star ∷ f ∷ Sign marks.OpenBracket ∷ IntLiteral (record { value = 3; decimal = true; unsigned = false; longs = 0 }) 9 ∷ Sign marks.CloseBracket ∷ right ∷ left ∷ int ∷ left ∷ star ∷ right ∷ left ∷ void ∷ right ∷ comma ∷ Sign marks.Ellipsis ∷ right ∷ []) ≡ Some (Declarator (Nested [] (Declarator (Named (star ∷ []) f (more (Part (ArrayBound [] (present (Primary (Constant (IntLiteral (record { value = 3; decimal = true; unsigned = false; longs = 0 }) 9)))))) no_more))) (more (Part (Params (more (Specifier (Param (Specifier (Specs (more (Part (SpecWord (int))) no_more))) (present (Declarator (Nested [] (Declarator (Unnamed (star ∷ []) no_more)) (more (Part VoidParams) no_more)))))) no_more) true)) no_more)))
unfolding read read_binary read_chain read_postfix_operators read_more_arguments read_path read_items read_suffixes read_params run_of after_run is_type type_words other_types storages inlines occurrences as_often is_among
declarator = refl

-- int (*(*)[2])(T)
abstract : whole NameOfType types (int ∷ left ∷ star ∷ left ∷ star ∷ right ∷ Sign marks.OpenBracket ∷ IntLiteral (record { value = 2; decimal = true; unsigned = false; longs = 0 }) 9 ∷ Sign marks.CloseBracket ∷ right ∷ left ∷ T ∷ right ∷ []) ≡ Some (Specifier (TypeName (Specifier (Specs (more (Part (SpecWord (int))) no_more))) (present (Declarator (Nested [] (Declarator (Nested (star ∷ []) (Declarator (Unnamed (star ∷ []) no_more)) (more (Part (ArrayBound [] (present (Primary (Constant (IntLiteral (record { value = 2; decimal = true; unsigned = false; longs = 0 }) 9)))))) no_more))) (more (Part (Params (more (Specifier (Param (Specifier (Specs (more (Part (SpecWord (T))) no_more))) absent)) no_more) false)) no_more))))))
unfolding read read_binary read_chain read_postfix_operators read_more_arguments read_path read_items read_suffixes read_params run_of after_run is_type type_words other_types storages inlines occurrences as_often is_among
abstract = refl

-- * const * volatile x[const static 3][]
pointers : whole (DeclaratorIn WithName) [] (star ∷ Reserved words.Const ∷ star ∷ Reserved words.Volatile ∷ x ∷ Sign marks.OpenBracket ∷ Reserved words.Const ∷ Reserved words.Static ∷ IntLiteral (record { value = 3; decimal = true; unsigned = false; longs = 0 }) 9 ∷ Sign marks.CloseBracket ∷ Sign marks.OpenBracket ∷ Sign marks.CloseBracket ∷ []) ≡ Some (Declarator (Named (star ∷ Reserved words.Const ∷ star ∷ Reserved words.Volatile ∷ []) x (more (Part (ArrayBound (Reserved words.Const ∷ Reserved words.Static ∷ []) (present (Primary (Constant (IntLiteral (record { value = 3; decimal = true; unsigned = false; longs = 0 }) 9)))))) (more (Part (ArrayBound [] absent)) no_more))))
unfolding read read_binary read_chain read_postfix_operators read_more_arguments read_path read_items read_suffixes read_params run_of after_run is_type type_words other_types storages inlines occurrences as_often is_among
pointers = refl

-- (T) declares T where a name is wanted
declared_type : whole (DeclaratorIn WithName) types (left ∷ T ∷ right ∷ []) ≡ Some (Declarator (Nested [] (Declarator (Named [] T no_more)) no_more))
unfolding read read_binary read_chain read_postfix_operators read_more_arguments read_path read_items read_suffixes read_params run_of after_run is_type type_words other_types storages inlines occurrences as_often is_among
declared_type = refl

-- int (T) is a function of a T in a parameter
type_in_param : whole Parameter types (int ∷ left ∷ T ∷ right ∷ []) ≡ Some (Specifier (Param (Specifier (Specs (more (Part (SpecWord (int))) no_more))) (present (Declarator (Unnamed [] (more (Part (Params (more (Specifier (Param (Specifier (Specs (more (Part (SpecWord (T))) no_more))) absent)) no_more) false)) no_more))))))
unfolding read read_binary read_chain read_postfix_operators read_more_arguments read_path read_items read_suffixes read_params run_of after_run is_type type_words other_types storages inlines occurrences as_often is_among
type_in_param = refl

-- int (x) is a name in a parameter
name_in_param : whole Parameter types (int ∷ left ∷ x ∷ right ∷ []) ≡ Some (Specifier (Param (Specifier (Specs (more (Part (SpecWord (int))) no_more))) (present (Declarator (Nested [] (Declarator (Named [] x no_more)) no_more)))))
unfolding read read_binary read_chain read_postfix_operators read_more_arguments read_path read_items read_suffixes read_params run_of after_run is_type type_words other_types storages inlines occurrences as_often is_among
name_in_param = refl

-- int ((T[])) too
nested_type_in_param : whole Parameter types (int ∷ left ∷ left ∷ T ∷ Sign marks.OpenBracket ∷ Sign marks.CloseBracket ∷ right ∷ right ∷ []) ≡ Some (Specifier (Param (Specifier (Specs (more (Part (SpecWord (int))) no_more))) (present (Declarator (Nested [] (Declarator (Unnamed [] (more (Part (Params (more (Specifier (Param (Specifier (Specs (more (Part (SpecWord (T))) no_more))) (present (Declarator (Unnamed [] (more (Part (ArrayBound [] absent)) no_more)))))) no_more) false)) no_more))) no_more)))))
unfolding read read_binary read_chain read_postfix_operators read_more_arguments read_path read_items read_suffixes read_params run_of after_run is_type type_words other_types storages inlines occurrences as_often is_among
nested_type_in_param = refl

-- int (*T) declares T in a parameter
pointer_named_as_type : whole Parameter types (int ∷ left ∷ star ∷ T ∷ right ∷ []) ≡ Some (Specifier (Param (Specifier (Specs (more (Part (SpecWord (int))) no_more))) (present (Declarator (Nested [] (Declarator (Named (star ∷ []) T no_more)) no_more)))))
unfolding read read_binary read_chain read_postfix_operators read_more_arguments read_path read_items read_suffixes read_params run_of after_run is_type type_words other_types storages inlines occurrences as_often is_among
pointer_named_as_type = refl

-- int T declares T in a parameter
name_behind_type : whole Parameter types (int ∷ T ∷ []) ≡ Some (Specifier (Param (Specifier (Specs (more (Part (SpecWord (int))) no_more))) (present (Declarator (Named [] T no_more)))))
unfolding read read_binary read_chain read_postfix_operators read_more_arguments read_path read_items read_suffixes read_params run_of after_run is_type type_words other_types storages inlines occurrences as_often is_among
name_behind_type = refl

-- f()
no_params : whole (DeclaratorIn WithName) [] (f ∷ left ∷ right ∷ []) ≡ Some (Declarator (Named [] f (more (Part (Params no_more false)) no_more)))
unfolding read read_binary read_chain read_postfix_operators read_more_arguments read_path read_items read_suffixes read_params run_of after_run is_type type_words other_types storages inlines occurrences as_often is_among
no_params = refl

-- f(void)
void_params : whole (DeclaratorIn WithName) [] (f ∷ left ∷ void ∷ right ∷ []) ≡ Some (Declarator (Named [] f (more (Part VoidParams) no_more)))
unfolding read read_binary read_chain read_postfix_operators read_more_arguments read_path read_items read_suffixes read_params run_of after_run is_type type_words other_types storages inlines occurrences as_often is_among
void_params = refl

-- f(void, int)
void_param : whole (DeclaratorIn WithName) [] (f ∷ left ∷ void ∷ comma ∷ int ∷ right ∷ []) ≡ Some (Declarator (Named [] f (more (Part (Params (more (Specifier (Param (Specifier (Specs (more (Part (SpecWord (void))) no_more))) absent)) (more (Specifier (Param (Specifier (Specs (more (Part (SpecWord (int))) no_more))) absent)) no_more)) false)) no_more)))
unfolding read read_binary read_chain read_postfix_operators read_more_arguments read_path read_items read_suffixes read_params run_of after_run is_type type_words other_types storages inlines occurrences as_often is_among
void_param = refl

-- f(...) has no parse
ellipsis_alone : whole (DeclaratorIn WithName) [] (f ∷ left ∷ Sign marks.Ellipsis ∷ right ∷ []) ≡ None
unfolding read read_binary read_chain read_postfix_operators read_more_arguments read_path read_items read_suffixes read_params run_of after_run is_type type_words other_types storages inlines occurrences as_often is_among
ellipsis_alone = refl

-- f(int T, T x) has none: the first parameter hides the type
param_hides_type : whole (DeclaratorIn WithName) types (f ∷ left ∷ int ∷ T ∷ comma ∷ T ∷ x ∷ right ∷ []) ≡ None
unfolding read read_binary read_chain read_postfix_operators read_more_arguments read_path read_items read_suffixes read_params run_of after_run is_type type_words other_types storages inlines occurrences as_often is_among
param_hides_type = refl

-- f(int T, int x[T])
param_in_bound : whole (DeclaratorIn WithName) types (f ∷ left ∷ int ∷ T ∷ comma ∷ int ∷ x ∷ Sign marks.OpenBracket ∷ T ∷ Sign marks.CloseBracket ∷ right ∷ []) ≡ Some (Declarator (Named [] f (more (Part (Params (more (Specifier (Param (Specifier (Specs (more (Part (SpecWord (int))) no_more))) (present (Declarator (Named [] T no_more))))) (more (Specifier (Param (Specifier (Specs (more (Part (SpecWord (int))) no_more))) (present (Declarator (Named [] x (more (Part (ArrayBound [] (present (ident T)))) no_more)))))) no_more)) false)) no_more)))
unfolding read read_binary read_chain read_postfix_operators read_more_arguments read_path read_items read_suffixes read_params run_of after_run is_type type_words other_types storages inlines occurrences as_often is_among
param_in_bound = refl

-- (*f(int T))(T x): behind the list T is a type again
params_are_closed : whole (DeclaratorIn WithName) types (left ∷ star ∷ f ∷ left ∷ int ∷ T ∷ right ∷ right ∷ left ∷ T ∷ x ∷ right ∷ []) ≡ Some (Declarator (Nested [] (Declarator (Named (star ∷ []) f (more (Part (Params (more (Specifier (Param (Specifier (Specs (more (Part (SpecWord (int))) no_more))) (present (Declarator (Named [] T no_more))))) no_more) false)) no_more))) (more (Part (Params (more (Specifier (Param (Specifier (Specs (more (Part (SpecWord (T))) no_more))) (present (Declarator (Named [] x no_more))))) no_more) false)) no_more)))
unfolding read read_binary read_chain read_postfix_operators read_more_arguments read_path read_items read_suffixes read_params run_of after_run is_type type_words other_types storages inlines occurrences as_often is_among
params_are_closed = refl

-- * declares nothing
star_alone : whole (DeclaratorIn WithName) [] (star ∷ []) ≡ None
unfolding read read_binary read_chain read_postfix_operators read_more_arguments read_path read_items read_suffixes read_params run_of after_run is_type type_words other_types storages inlines occurrences as_often is_among
star_alone = refl

-- int x is no type name
named_type_name : whole NameOfType [] (int ∷ x ∷ []) ≡ None
unfolding read read_binary read_chain read_postfix_operators read_more_arguments read_path read_items read_suffixes read_params run_of after_run is_type type_words other_types storages inlines occurrences as_often is_among
named_type_name = refl

-- int (()) is a function in parentheses
nothing_nested : whole NameOfType [] (int ∷ left ∷ left ∷ right ∷ right ∷ []) ≡ Some (Specifier (TypeName (Specifier (Specs (more (Part (SpecWord (int))) no_more))) (present (Declarator (Nested [] (Declarator (Unnamed [] (more (Part (Params no_more false)) no_more))) no_more)))))
unfolding read read_binary read_chain read_postfix_operators read_more_arguments read_path read_items read_suffixes read_params run_of after_run is_type type_words other_types storages inlines occurrences as_often is_among
nothing_nested = refl

-- (x) is two high
high_enough : read 2 (Expression 15) [] (left ∷ x ∷ right ∷ []) ≡ Some (Primary (Paren (ident x)), [])
unfolding read read_binary read_chain read_postfix_operators read_more_arguments read_path read_items read_suffixes read_params run_of after_run is_type type_words other_types storages inlines occurrences as_often is_among
high_enough = refl

too_high : read 1 (Expression 15) [] (left ∷ x ∷ right ∷ []) ≡ None
unfolding read read_binary read_chain read_postfix_operators read_more_arguments read_path read_items read_suffixes read_params run_of after_run is_type type_words other_types storages inlines occurrences as_often is_among
too_high = refl

-- what follows a tree is left: x + y ; of which the sum is read
left_over : read 9 (Expression 15) [] (x ∷ Sign marks.Plus ∷ y ∷ Sign marks.Semicolon ∷ []) ≡ Some (Operation (Binary binary.Add (ident x) (ident y)), Sign marks.Semicolon ∷ [])
unfolding read read_binary read_chain read_postfix_operators read_more_arguments read_path read_items read_suffixes read_params run_of after_run is_type type_words other_types storages inlines occurrences as_often is_among
left_over = refl
