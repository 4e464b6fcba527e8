-- Texts that are read, and texts that are refused. T, s, x, f, A, B and y are names, n is a number. Where `types` are in force
-- T is a type.
use Rattle.std.proofs.Common.{◌≡◌, true, false, [], ◌∷◌, None, Some, refl}
use Rattle.c_tree.specs.declared.keyword.Keyword.TheVariants as words
use Rattle.c_tree.specs.declared.punctuator.Punctuator.TheVariants as marks
use Rattle.c_tree.specs.declared.operator.BinaryOp.TheVariants as binary
use Rattle.c_tree.specs.declared.operator.StructOrUnion.TheVariants as which_word
use Rattle.c_tree.specs.Symbol.{Symbol, Word, Reserved, Sign, IntLiteral}
use Rattle.c_tree.specs.Syntax.{Syntax, Primary, Operation, Initializer, Specifier, Declarator, Part, Outer, Statement, Iteration, Jump, Ident, Constant, Binary, Call, Cond, Init, Braces, Specs, StructTag, StructBody, EnumTag, EnumBody, StructDeclaration, BitField, Param, Named, Nested, SpecWord, Params, VoidParams, ArrayBound, Enumerator, Declaration, Function, Empty, Block, ExprStmt, If, Switch, Case, Default, Label, While, Do, For, Goto, Break, Continue, Return, absent, present, Syntaxes, no_more, more}
use Rattle.c_grammar.specs.Symbols.{run_of, after_run}
use Rattle.c_grammar.specs.Names.{Names, is_type}
use Rattle.c_grammar.specs.Specifiers.{type_words, other_types, storages, inlines, occurrences, as_often, is_among}
use Rattle.c_grammar.specs.Ways.SpecifierSteps.{read_items}
use Rattle.c_grammar.specs.Ways.DeclaratorSteps.{read_params, read_suffixes}
use Rattle.c_grammar.specs.Ways.ExpressionSteps.{read_path, read_more_arguments, read_postfix_operators, read_chain, read_binary}
use Rattle.c_grammar.specs.Reading.{read as read_expressions}
use Rattle.c_grammar.specs.UnitGrammar.Names.{has_typedef, declared}
use Rattle.c_grammar.specs.UnitGrammar.Control.{are_different}
use Rattle.c_grammar.specs.UnitGrammar.Construct.{OneStatement}
use Rattle.c_grammar.specs.Ways.TaggedSteps.{read_enumerators, read_members, read_member_declarators}
use Rattle.c_grammar.specs.Ways.DeclarationSteps.{read_initials, read_init_declarators}
use Rattle.c_grammar.specs.Ways.StatementSteps.{read_statements, read_block_items}
use Rattle.c_grammar.specs.UnitGrammar.Reading.{read, chunk}

abbrev T : Symbol
T = Word 0

abbrev x : Symbol
x = Word 1

abbrev f : Symbol
f = Word 2

abbrev s : Symbol
s = Word 3

abbrev A : Symbol
A = Word 4

abbrev B : Symbol
B = Word 5

abbrev y : Symbol
y = Word 6

abbrev a : Symbol
a = Word 7

abbrev b : Symbol
b = Word 8

abbrev g : Symbol
g = Word 9

abbrev left : Symbol
left = Sign marks.OpenParen

abbrev right : Symbol
right = Sign marks.CloseParen

abbrev open_brace : Symbol
open_brace = Sign marks.OpenBrace

abbrev close_brace : Symbol
close_brace = Sign marks.CloseBrace

abbrev semicolon : Symbol
semicolon = Sign marks.Semicolon

abbrev comma : Symbol
comma = Sign marks.Comma

abbrev colon : Symbol
colon = Sign marks.Colon

abbrev star : Symbol
star = Sign marks.Star

abbrev equals : Symbol
equals = Sign marks.Assign

abbrev int_word : Symbol
int_word = Reserved words.Int

abbrev void_word : Symbol
void_word = Reserved words.Void

abbrev struct_word : Symbol
struct_word = Reserved words.Struct

abbrev enum_word : Symbol
enum_word = Reserved words.Enum

abbrev typedef_word : Symbol
typedef_word = Reserved words.Typedef

abbrev n : Symbol
n = IntLiteral (record { value = 3; decimal = true; unsigned = false; longs = 0 }) 10

abbrev types : Names
types = (0, true) ∷ []

abbrev ident : Symbol → Syntax
ident name = Primary (Ident name)

abbrev number : Syntax
number = Primary (Constant n)

abbrev one_word : Symbol → Syntax
one_word word = Specifier (Specs (more (Part (SpecWord word)) no_more))

abbrev plain : Symbol → Syntax
plain name = Declarator (Named [] name no_more)

abbrev pointer : Symbol → Syntax
pointer name = Declarator (Named (star ∷ []) name no_more)

abbrev of_void : Symbol → Syntax
of_void name = Declarator (Named [] name (more (Part VoidParams) no_more))

abbrev empty : Syntax
empty = Statement (ExprStmt absent)

-- int name;
abbrev declares_int : Symbol → Syntax
declares_int name = Outer (Declaration (one_word int_word) (more (plain name) no_more))

-- void f(void) { .. }
abbrev function : Syntaxes → Syntax
function items = Outer (Function (one_word void_word) (of_void f) (Statement (Block items)))

-- int x;
one_name : chunk [] (int_word ∷ x ∷ semicolon ∷ []) ≡ Some (declares_int x)
unfolding read_expressions read_binary read_chain read_postfix_operators read_more_arguments read_path read_items read_suffixes read_params run_of after_run is_type type_words other_types storages inlines occurrences as_often is_among has_typedef are_different read_enumerators read_members read_member_declarators read_initials read_init_declarators read_statements read_block_items read
one_name = refl

-- ;
nothing : chunk [] (semicolon ∷ []) ≡ Some (Outer Empty)
unfolding read_expressions read_binary read_chain read_postfix_operators read_more_arguments read_path read_items read_suffixes read_params run_of after_run is_type type_words other_types storages inlines occurrences as_often is_among has_typedef are_different read_enumerators read_members read_member_declarators read_initials read_init_declarators read_statements read_block_items read
nothing = refl

-- int;
no_declarator : chunk [] (int_word ∷ semicolon ∷ []) ≡ Some (Outer (Declaration (one_word int_word) no_more))
unfolding read_expressions read_binary read_chain read_postfix_operators read_more_arguments read_path read_items read_suffixes read_params run_of after_run is_type type_words other_types storages inlines occurrences as_often is_among has_typedef are_different read_enumerators read_members read_member_declarators read_initials read_init_declarators read_statements read_block_items read
no_declarator = refl

-- T x, * y;
several : chunk types (T ∷ x ∷ comma ∷ star ∷ y ∷ semicolon ∷ []) ≡ Some (Outer (Declaration (one_word T) (more (plain x) (more (pointer y) no_more))))
unfolding read_expressions read_binary read_chain read_postfix_operators read_more_arguments read_path read_items read_suffixes read_params run_of after_run is_type type_words other_types storages inlines occurrences as_often is_among has_typedef are_different read_enumerators read_members read_member_declarators read_initials read_init_declarators read_statements read_block_items read
several = refl

-- int x
no_semicolon : chunk [] (int_word ∷ x ∷ []) ≡ None
unfolding read_expressions read_binary read_chain read_postfix_operators read_more_arguments read_path read_items read_suffixes read_params run_of after_run is_type type_words other_types storages inlines occurrences as_often is_among has_typedef are_different read_enumerators read_members read_member_declarators read_initials read_init_declarators read_statements read_block_items read
no_semicolon = refl

-- int x;;
two_chunks : chunk [] (int_word ∷ x ∷ semicolon ∷ semicolon ∷ []) ≡ None
unfolding read_expressions read_binary read_chain read_postfix_operators read_more_arguments read_path read_items read_suffixes read_params run_of after_run is_type type_words other_types storages inlines occurrences as_often is_among has_typedef are_different read_enumerators read_members read_member_declarators read_initials read_init_declarators read_statements read_block_items read
two_chunks = refl

abbrev declares_type : Syntax
declares_type = Outer (Declaration (Specifier (Specs (more (Part (SpecWord typedef_word)) (more (Part (SpecWord int_word)) no_more)))) (more (plain T) no_more))

-- typedef int T; void f(void) { T * x; }
type_behind_typedef : (chunk [] (typedef_word ∷ int_word ∷ T ∷ semicolon ∷ []) ≡ Some declares_type) × (chunk (declared declares_type []) (void_word ∷ f ∷ left ∷ void_word ∷ right ∷ open_brace ∷ T ∷ star ∷ x ∷ semicolon ∷ close_brace ∷ []) ≡ Some (function (more (Outer (Declaration (one_word T) (more (pointer x) no_more))) no_more)))
unfolding read_expressions read_binary read_chain read_postfix_operators read_more_arguments read_path read_items read_suffixes read_params run_of after_run is_type type_words other_types storages inlines occurrences as_often is_among has_typedef are_different read_enumerators read_members read_member_declarators read_initials read_init_declarators read_statements read_block_items read
type_behind_typedef = (refl, refl)

-- void f(void) { T * x; }
product : chunk [] (void_word ∷ f ∷ left ∷ void_word ∷ right ∷ open_brace ∷ T ∷ star ∷ x ∷ semicolon ∷ close_brace ∷ []) ≡ Some (function (more (Statement (ExprStmt (present (Operation (Binary binary.Multiply (ident T) (ident x)))))) no_more))
unfolding read_expressions read_binary read_chain read_postfix_operators read_more_arguments read_path read_items read_suffixes read_params run_of after_run is_type type_words other_types storages inlines occurrences as_often is_among has_typedef are_different read_enumerators read_members read_member_declarators read_initials read_init_declarators read_statements read_block_items read
product = refl

-- void f(void) { T:; }
label_named_as_type : chunk types (void_word ∷ f ∷ left ∷ void_word ∷ right ∷ open_brace ∷ T ∷ colon ∷ semicolon ∷ close_brace ∷ []) ≡ Some (function (more (Statement (Label T empty)) no_more))
unfolding read_expressions read_binary read_chain read_postfix_operators read_more_arguments read_path read_items read_suffixes read_params run_of after_run is_type type_words other_types storages inlines occurrences as_often is_among has_typedef are_different read_enumerators read_members read_member_declarators read_initials read_init_declarators read_statements read_block_items read
label_named_as_type = refl

-- void f(void) { int T; T * x; }
type_hidden_in_block : chunk types (void_word ∷ f ∷ left ∷ void_word ∷ right ∷ open_brace ∷ int_word ∷ T ∷ semicolon ∷ T ∷ star ∷ x ∷ semicolon ∷ close_brace ∷ []) ≡ Some (function (more (declares_int T) (more (Statement (ExprStmt (present (Operation (Binary binary.Multiply (ident T) (ident x)))))) no_more)))
unfolding read_expressions read_binary read_chain read_postfix_operators read_more_arguments read_path read_items read_suffixes read_params run_of after_run is_type type_words other_types storages inlines occurrences as_often is_among has_typedef are_different read_enumerators read_members read_member_declarators read_initials read_init_declarators read_statements read_block_items read
type_hidden_in_block = refl

-- void f(void) { T T; T * x; }
hidden_by_itself : chunk types (void_word ∷ f ∷ left ∷ void_word ∷ right ∷ open_brace ∷ T ∷ T ∷ semicolon ∷ T ∷ star ∷ x ∷ semicolon ∷ close_brace ∷ []) ≡ Some (function (more (Outer (Declaration (one_word T) (more (plain T) no_more))) (more (Statement (ExprStmt (present (Operation (Binary binary.Multiply (ident T) (ident x)))))) no_more)))
unfolding read_expressions read_binary read_chain read_postfix_operators read_more_arguments read_path read_items read_suffixes read_params run_of after_run is_type type_words other_types storages inlines occurrences as_often is_among has_typedef are_different read_enumerators read_members read_member_declarators read_initials read_init_declarators read_statements read_block_items read
hidden_by_itself = refl

-- void f(void) { { int T; } { T * x; } }
block_is_closed : chunk types (void_word ∷ f ∷ left ∷ void_word ∷ right ∷ open_brace ∷ open_brace ∷ int_word ∷ T ∷ semicolon ∷ close_brace ∷ open_brace ∷ T ∷ star ∷ x ∷ semicolon ∷ close_brace ∷ close_brace ∷ []) ≡ Some (function (more (Statement (Block (more (declares_int T) no_more))) (more (Statement (Block (more (Outer (Declaration (one_word T) (more (pointer x) no_more))) no_more))) no_more)))
unfolding read_expressions read_binary read_chain read_postfix_operators read_more_arguments read_path read_items read_suffixes read_params run_of after_run is_type type_words other_types storages inlines occurrences as_often is_among has_typedef are_different read_enumerators read_members read_member_declarators read_initials read_init_declarators read_statements read_block_items read
block_is_closed = refl

-- void f(void) {; int x; } has no parse
declaration_behind_statement : chunk [] (void_word ∷ f ∷ left ∷ void_word ∷ right ∷ open_brace ∷ semicolon ∷ int_word ∷ x ∷ semicolon ∷ close_brace ∷ []) ≡ None
unfolding read_expressions read_binary read_chain read_postfix_operators read_more_arguments read_path read_items read_suffixes read_params run_of after_run is_type type_words other_types storages inlines occurrences as_often is_among has_typedef are_different read_enumerators read_members read_member_declarators read_initials read_init_declarators read_statements read_block_items read
declaration_behind_statement = refl

-- void f(void) { if (x) if (y); else; }
nearest_else : chunk [] (void_word ∷ f ∷ left ∷ void_word ∷ right ∷ open_brace ∷ Reserved words.If ∷ left ∷ x ∷ right ∷ Reserved words.If ∷ left ∷ y ∷ right ∷ semicolon ∷ Reserved words.Else ∷ semicolon ∷ close_brace ∷ []) ≡ Some (function (more (Statement (If (ident x) (Statement (If (ident y) empty (present empty))) absent)) no_more))
unfolding read_expressions read_binary read_chain read_postfix_operators read_more_arguments read_path read_items read_suffixes read_params run_of after_run is_type type_words other_types storages inlines occurrences as_often is_among has_typedef are_different read_enumerators read_members read_member_declarators read_initials read_init_declarators read_statements read_block_items read
nearest_else = refl

-- void f(void) { if (x) { if (y); } else; }
outer_else : chunk [] (void_word ∷ f ∷ left ∷ void_word ∷ right ∷ open_brace ∷ Reserved words.If ∷ left ∷ x ∷ right ∷ open_brace ∷ Reserved words.If ∷ left ∷ y ∷ right ∷ semicolon ∷ close_brace ∷ Reserved words.Else ∷ semicolon ∷ close_brace ∷ []) ≡ Some (function (more (Statement (If (ident x) (Statement (Block (more (Statement (If (ident y) empty absent)) no_more))) (present empty))) no_more))
unfolding read_expressions read_binary read_chain read_postfix_operators read_more_arguments read_path read_items read_suffixes read_params run_of after_run is_type type_words other_types storages inlines occurrences as_often is_among has_typedef are_different read_enumerators read_members read_member_declarators read_initials read_init_declarators read_statements read_block_items read
outer_else = refl

-- void f(void) { if (x) while (y) if (x); else; }
else_through_loop : chunk [] (void_word ∷ f ∷ left ∷ void_word ∷ right ∷ open_brace ∷ Reserved words.If ∷ left ∷ x ∷ right ∷ Reserved words.While ∷ left ∷ y ∷ right ∷ Reserved words.If ∷ left ∷ x ∷ right ∷ semicolon ∷ Reserved words.Else ∷ semicolon ∷ close_brace ∷ []) ≡ Some (function (more (Statement (If (ident x) (Iteration (While (ident y) (Statement (If (ident x) empty (present empty))))) absent)) no_more))
unfolding read_expressions read_binary read_chain read_postfix_operators read_more_arguments read_path read_items read_suffixes read_params run_of after_run is_type type_words other_types storages inlines occurrences as_often is_among has_typedef are_different read_enumerators read_members read_member_declarators read_initials read_init_declarators read_statements read_block_items read
else_through_loop = refl

-- void f(void) { if (x) do if (y); while (x); else; }
else_behind_do : chunk [] (void_word ∷ f ∷ left ∷ void_word ∷ right ∷ open_brace ∷ Reserved words.If ∷ left ∷ x ∷ right ∷ Reserved words.Do ∷ Reserved words.If ∷ left ∷ y ∷ right ∷ semicolon ∷ Reserved words.While ∷ left ∷ x ∷ right ∷ semicolon ∷ Reserved words.Else ∷ semicolon ∷ close_brace ∷ []) ≡ Some (function (more (Statement (If (ident x) (Iteration (Do (Statement (If (ident y) empty absent)) (ident x))) (present empty))) no_more))
unfolding read_expressions read_binary read_chain read_postfix_operators read_more_arguments read_path read_items read_suffixes read_params run_of after_run is_type type_words other_types storages inlines occurrences as_often is_among has_typedef are_different read_enumerators read_members read_member_declarators read_initials read_init_declarators read_statements read_block_items read
else_behind_do = refl

-- void f(void) { if (x) if (y); else; else; }
else_through_both : chunk [] (void_word ∷ f ∷ left ∷ void_word ∷ right ∷ open_brace ∷ Reserved words.If ∷ left ∷ x ∷ right ∷ Reserved words.If ∷ left ∷ y ∷ right ∷ semicolon ∷ Reserved words.Else ∷ semicolon ∷ Reserved words.Else ∷ semicolon ∷ close_brace ∷ []) ≡ Some (function (more (Statement (If (ident x) (Statement (If (ident y) empty (present empty))) (present empty))) no_more))
unfolding read_expressions read_binary read_chain read_postfix_operators read_more_arguments read_path read_items read_suffixes read_params run_of after_run is_type type_words other_types storages inlines occurrences as_often is_among has_typedef are_different read_enumerators read_members read_member_declarators read_initials read_init_declarators read_statements read_block_items read
else_through_both = refl

-- void f(void) { else; } has none
else_alone : chunk [] (void_word ∷ f ∷ left ∷ void_word ∷ right ∷ open_brace ∷ Reserved words.Else ∷ semicolon ∷ close_brace ∷ []) ≡ None
unfolding read_expressions read_binary read_chain read_postfix_operators read_more_arguments read_path read_items read_suffixes read_params run_of after_run is_type type_words other_types storages inlines occurrences as_often is_among has_typedef are_different read_enumerators read_members read_member_declarators read_initials read_init_declarators read_statements read_block_items read
else_alone = refl

-- struct s { int a, b : n;; };
members : chunk [] (struct_word ∷ s ∷ open_brace ∷ int_word ∷ a ∷ comma ∷ b ∷ colon ∷ n ∷ semicolon ∷ semicolon ∷ close_brace ∷ semicolon ∷ []) ≡ Some (Outer (Declaration (Specifier (Specs (more (Specifier (StructBody which_word.Struct (Some s) (more (Specifier (StructDeclaration (one_word int_word) (more (plain a) (more (Specifier (BitField (present (plain b)) number)) no_more)))) (more (Outer Empty) no_more)))) no_more))) no_more))
unfolding read_expressions read_binary read_chain read_postfix_operators read_more_arguments read_path read_items read_suffixes read_params run_of after_run is_type type_words other_types storages inlines occurrences as_often is_among has_typedef are_different read_enumerators read_members read_member_declarators read_initials read_init_declarators read_statements read_block_items read
members = refl

-- struct { } x;
no_members : chunk [] (struct_word ∷ open_brace ∷ close_brace ∷ x ∷ semicolon ∷ []) ≡ Some (Outer (Declaration (Specifier (Specs (more (Specifier (StructBody which_word.Struct None no_more)) no_more))) (more (plain x) no_more)))
unfolding read_expressions read_binary read_chain read_postfix_operators read_more_arguments read_path read_items read_suffixes read_params run_of after_run is_type type_words other_types storages inlines occurrences as_often is_among has_typedef are_different read_enumerators read_members read_member_declarators read_initials read_init_declarators read_statements read_block_items read
no_members = refl

-- struct { int : n; } x;
unnamed_field : chunk [] (struct_word ∷ open_brace ∷ int_word ∷ colon ∷ n ∷ semicolon ∷ close_brace ∷ x ∷ semicolon ∷ []) ≡ Some (Outer (Declaration (Specifier (Specs (more (Specifier (StructBody which_word.Struct None (more (Specifier (StructDeclaration (one_word int_word) (more (Specifier (BitField absent number)) no_more))) no_more))) no_more))) (more (plain x) no_more)))
unfolding read_expressions read_binary read_chain read_postfix_operators read_more_arguments read_path read_items read_suffixes read_params run_of after_run is_type type_words other_types storages inlines occurrences as_often is_among has_typedef are_different read_enumerators read_members read_member_declarators read_initials read_init_declarators read_statements read_block_items read
unnamed_field = refl

-- struct { struct { int a; }; } x;
unnamed_member : chunk [] (struct_word ∷ open_brace ∷ struct_word ∷ open_brace ∷ int_word ∷ a ∷ semicolon ∷ close_brace ∷ semicolon ∷ close_brace ∷ x ∷ semicolon ∷ []) ≡ Some (Outer (Declaration (Specifier (Specs (more (Specifier (StructBody which_word.Struct None (more (Specifier (StructDeclaration (Specifier (Specs (more (Specifier (StructBody which_word.Struct None (more (Specifier (StructDeclaration (one_word int_word) (more (plain a) no_more))) no_more))) no_more))) no_more)) no_more))) no_more))) (more (plain x) no_more)))
unfolding read_expressions read_binary read_chain read_postfix_operators read_more_arguments read_path read_items read_suffixes read_params run_of after_run is_type type_words other_types storages inlines occurrences as_often is_among has_typedef are_different read_enumerators read_members read_member_declarators read_initials read_init_declarators read_statements read_block_items read
unnamed_member = refl

-- struct { int; } x; has none: only a structure or union may lack a name
member_of_int : chunk [] (struct_word ∷ open_brace ∷ int_word ∷ semicolon ∷ close_brace ∷ x ∷ semicolon ∷ []) ≡ None
unfolding read_expressions read_binary read_chain read_postfix_operators read_more_arguments read_path read_items read_suffixes read_params run_of after_run is_type type_words other_types storages inlines occurrences as_often is_among has_typedef are_different read_enumerators read_members read_member_declarators read_initials read_init_declarators read_statements read_block_items read
member_of_int = refl

-- struct { struct s; } x; has none
member_of_tag : chunk [] (struct_word ∷ open_brace ∷ struct_word ∷ s ∷ semicolon ∷ close_brace ∷ x ∷ semicolon ∷ []) ≡ None
unfolding read_expressions read_binary read_chain read_postfix_operators read_more_arguments read_path read_items read_suffixes read_params run_of after_run is_type type_words other_types storages inlines occurrences as_often is_among has_typedef are_different read_enumerators read_members read_member_declarators read_initials read_init_declarators read_statements read_block_items read
member_of_tag = refl

-- struct { enum { A }; } x; has none
member_of_enum : chunk [] (struct_word ∷ open_brace ∷ enum_word ∷ open_brace ∷ A ∷ close_brace ∷ semicolon ∷ close_brace ∷ x ∷ semicolon ∷ []) ≡ None
unfolding read_expressions read_binary read_chain read_postfix_operators read_more_arguments read_path read_items read_suffixes read_params run_of after_run is_type type_words other_types storages inlines occurrences as_often is_among has_typedef are_different read_enumerators read_members read_member_declarators read_initials read_init_declarators read_statements read_block_items read
member_of_enum = refl

-- struct { static int a; } x; has none
member_with_storage : chunk [] (struct_word ∷ open_brace ∷ Reserved words.Static ∷ int_word ∷ a ∷ semicolon ∷ close_brace ∷ x ∷ semicolon ∷ []) ≡ None
unfolding read_expressions read_binary read_chain read_postfix_operators read_more_arguments read_path read_items read_suffixes read_params run_of after_run is_type type_words other_types storages inlines occurrences as_often is_among has_typedef are_different read_enumerators read_members read_member_declarators read_initials read_init_declarators read_statements read_block_items read
member_with_storage = refl

-- struct { inline int a; } x; has none
member_with_inline : chunk [] (struct_word ∷ open_brace ∷ Reserved words.Inline ∷ int_word ∷ a ∷ semicolon ∷ close_brace ∷ x ∷ semicolon ∷ []) ≡ None
unfolding read_expressions read_binary read_chain read_postfix_operators read_more_arguments read_path read_items read_suffixes read_params run_of after_run is_type type_words other_types storages inlines occurrences as_often is_among has_typedef are_different read_enumerators read_members read_member_declarators read_initials read_init_declarators read_statements read_block_items read
member_with_inline = refl

-- struct { int *; } x; has none
member_without_name : chunk [] (struct_word ∷ open_brace ∷ int_word ∷ star ∷ semicolon ∷ close_brace ∷ x ∷ semicolon ∷ []) ≡ None
unfolding read_expressions read_binary read_chain read_postfix_operators read_more_arguments read_path read_items read_suffixes read_params run_of after_run is_type type_words other_types storages inlines occurrences as_often is_among has_typedef are_different read_enumerators read_members read_member_declarators read_initials read_init_declarators read_statements read_block_items read
member_without_name = refl

-- struct { int T; T x; } y;
member_named_as_type : chunk types (struct_word ∷ open_brace ∷ int_word ∷ T ∷ semicolon ∷ T ∷ x ∷ semicolon ∷ close_brace ∷ y ∷ semicolon ∷ []) ≡ Some (Outer (Declaration (Specifier (Specs (more (Specifier (StructBody which_word.Struct None (more (Specifier (StructDeclaration (one_word int_word) (more (plain T) no_more))) (more (Specifier (StructDeclaration (one_word T) (more (plain x) no_more))) no_more)))) no_more))) (more (plain y) no_more)))
unfolding read_expressions read_binary read_chain read_postfix_operators read_more_arguments read_path read_items read_suffixes read_params run_of after_run is_type type_words other_types storages inlines occurrences as_often is_among has_typedef are_different read_enumerators read_members read_member_declarators read_initials read_init_declarators read_statements read_block_items read
member_named_as_type = refl

-- struct T x;
tag_named_as_type : chunk types (struct_word ∷ T ∷ x ∷ semicolon ∷ []) ≡ Some (Outer (Declaration (Specifier (Specs (more (Specifier (StructTag which_word.Struct T)) no_more))) (more (plain x) no_more)))
unfolding read_expressions read_binary read_chain read_postfix_operators read_more_arguments read_path read_items read_suffixes read_params run_of after_run is_type type_words other_types storages inlines occurrences as_often is_among has_typedef are_different read_enumerators read_members read_member_declarators read_initials read_init_declarators read_statements read_block_items read
tag_named_as_type = refl

-- void f(struct s { int a; } x); has none
body_in_param : chunk [] (void_word ∷ f ∷ left ∷ struct_word ∷ s ∷ open_brace ∷ int_word ∷ a ∷ semicolon ∷ close_brace ∷ x ∷ right ∷ semicolon ∷ []) ≡ None
unfolding read_expressions read_binary read_chain read_postfix_operators read_more_arguments read_path read_items read_suffixes read_params run_of after_run is_type type_words other_types storages inlines occurrences as_often is_among has_typedef are_different read_enumerators read_members read_member_declarators read_initials read_init_declarators read_statements read_block_items read
body_in_param = refl

-- int x = sizeof(struct { int a; }); has none
body_in_sizeof : chunk [] (int_word ∷ x ∷ equals ∷ Reserved words.Sizeof ∷ left ∷ struct_word ∷ open_brace ∷ int_word ∷ a ∷ semicolon ∷ close_brace ∷ right ∷ semicolon ∷ []) ≡ None
unfolding read_expressions read_binary read_chain read_postfix_operators read_more_arguments read_path read_items read_suffixes read_params run_of after_run is_type type_words other_types storages inlines occurrences as_often is_among has_typedef are_different read_enumerators read_members read_member_declarators read_initials read_init_declarators read_statements read_block_items read
body_in_sizeof = refl

-- struct s { int a; } int x; has none
two_types : chunk [] (struct_word ∷ s ∷ open_brace ∷ int_word ∷ a ∷ semicolon ∷ close_brace ∷ int_word ∷ x ∷ semicolon ∷ []) ≡ None
unfolding read_expressions read_binary read_chain read_postfix_operators read_more_arguments read_path read_items read_suffixes read_params run_of after_run is_type type_words other_types storages inlines occurrences as_often is_among has_typedef are_different read_enumerators read_members read_member_declarators read_initials read_init_declarators read_statements read_block_items read
two_types = refl

-- enum { A, B = A, };
enumerators : chunk [] (enum_word ∷ open_brace ∷ A ∷ comma ∷ B ∷ equals ∷ A ∷ comma ∷ close_brace ∷ semicolon ∷ []) ≡ Some (Outer (Declaration (Specifier (Specs (more (Specifier (EnumBody None (more (Part (Enumerator A absent)) (more (Part (Enumerator B (present (ident A)))) no_more)) true)) no_more))) no_more))
unfolding read_expressions read_binary read_chain read_postfix_operators read_more_arguments read_path read_items read_suffixes read_params run_of after_run is_type type_words other_types storages inlines occurrences as_often is_among has_typedef are_different read_enumerators read_members read_member_declarators read_initials read_init_declarators read_statements read_block_items read
enumerators = refl

-- enum s { T, B = T };
enumerator_hides_type : chunk types (enum_word ∷ s ∷ open_brace ∷ T ∷ comma ∷ B ∷ equals ∷ T ∷ close_brace ∷ semicolon ∷ []) ≡ Some (Outer (Declaration (Specifier (Specs (more (Specifier (EnumBody (Some s) (more (Part (Enumerator T absent)) (more (Part (Enumerator B (present (ident T)))) no_more)) false)) no_more))) no_more))
unfolding read_expressions read_binary read_chain read_postfix_operators read_more_arguments read_path read_items read_suffixes read_params run_of after_run is_type type_words other_types storages inlines occurrences as_often is_among has_typedef are_different read_enumerators read_members read_member_declarators read_initials read_init_declarators read_statements read_block_items read
enumerator_hides_type = refl

-- enum { T = T }; has none: T is still a type in its own value
enumerator_in_itself : chunk types (enum_word ∷ open_brace ∷ T ∷ equals ∷ T ∷ close_brace ∷ semicolon ∷ []) ≡ None
unfolding read_expressions read_binary read_chain read_postfix_operators read_more_arguments read_path read_items read_suffixes read_params run_of after_run is_type type_words other_types storages inlines occurrences as_often is_among has_typedef are_different read_enumerators read_members read_member_declarators read_initials read_init_declarators read_statements read_block_items read
enumerator_in_itself = refl

-- enum { T } x = T;
enumerator_in_declarator : chunk types (enum_word ∷ open_brace ∷ T ∷ close_brace ∷ x ∷ equals ∷ T ∷ semicolon ∷ []) ≡ Some (Outer (Declaration (Specifier (Specs (more (Specifier (EnumBody None (more (Part (Enumerator T absent)) no_more) false)) no_more))) (more (Initializer (Init (ident x) (plain x) (ident T))) no_more)))
unfolding read_expressions read_binary read_chain read_postfix_operators read_more_arguments read_path read_items read_suffixes read_params run_of after_run is_type type_words other_types storages inlines occurrences as_often is_among has_typedef are_different read_enumerators read_members read_member_declarators read_initials read_init_declarators read_statements read_block_items read
enumerator_in_declarator = refl

-- struct { enum { T } a; } x = T;
enumerator_from_member : chunk types (struct_word ∷ open_brace ∷ enum_word ∷ open_brace ∷ T ∷ close_brace ∷ a ∷ semicolon ∷ close_brace ∷ x ∷ equals ∷ T ∷ semicolon ∷ []) ≡ Some (Outer (Declaration (Specifier (Specs (more (Specifier (StructBody which_word.Struct None (more (Specifier (StructDeclaration (Specifier (Specs (more (Specifier (EnumBody None (more (Part (Enumerator T absent)) no_more) false)) no_more))) (more (plain a) no_more))) no_more))) no_more))) (more (Initializer (Init (ident x) (plain x) (ident T))) no_more)))
unfolding read_expressions read_binary read_chain read_postfix_operators read_more_arguments read_path read_items read_suffixes read_params run_of after_run is_type type_words other_types storages inlines occurrences as_often is_among has_typedef are_different read_enumerators read_members read_member_declarators read_initials read_init_declarators read_statements read_block_items read
enumerator_from_member = refl

-- enum { }; has none
no_enumerator : chunk [] (enum_word ∷ open_brace ∷ close_brace ∷ semicolon ∷ []) ≡ None
unfolding read_expressions read_binary read_chain read_postfix_operators read_more_arguments read_path read_items read_suffixes read_params run_of after_run is_type type_words other_types storages inlines occurrences as_often is_among has_typedef are_different read_enumerators read_members read_member_declarators read_initials read_init_declarators read_statements read_block_items read
no_enumerator = refl

-- enum {, }; has none
comma_alone_in_enum : chunk [] (enum_word ∷ open_brace ∷ comma ∷ close_brace ∷ semicolon ∷ []) ≡ None
unfolding read_expressions read_binary read_chain read_postfix_operators read_more_arguments read_path read_items read_suffixes read_params run_of after_run is_type type_words other_types storages inlines occurrences as_often is_among has_typedef are_different read_enumerators read_members read_member_declarators read_initials read_init_declarators read_statements read_block_items read
comma_alone_in_enum = refl

-- enum s x;
enum_tag : chunk [] (enum_word ∷ s ∷ x ∷ semicolon ∷ []) ≡ Some (Outer (Declaration (Specifier (Specs (more (Specifier (EnumTag s)) no_more))) (more (plain x) no_more)))
unfolding read_expressions read_binary read_chain read_postfix_operators read_more_arguments read_path read_items read_suffixes read_params run_of after_run is_type type_words other_types storages inlines occurrences as_often is_among has_typedef are_different read_enumerators read_members read_member_declarators read_initials read_init_declarators read_statements read_block_items read
enum_tag = refl

-- int x = x;
initial_of_itself : chunk [] (int_word ∷ x ∷ equals ∷ x ∷ semicolon ∷ []) ≡ Some (Outer (Declaration (one_word int_word) (more (Initializer (Init (ident x) (plain x) (ident x))) no_more)))
unfolding read_expressions read_binary read_chain read_postfix_operators read_more_arguments read_path read_items read_suffixes read_params run_of after_run is_type type_words other_types storages inlines occurrences as_often is_among has_typedef are_different read_enumerators read_members read_member_declarators read_initials read_init_declarators read_statements read_block_items read
initial_of_itself = refl

-- int T = T;
hides_type_in_initial : chunk types (int_word ∷ T ∷ equals ∷ T ∷ semicolon ∷ []) ≡ Some (Outer (Declaration (one_word int_word) (more (Initializer (Init (ident T) (plain T) (ident T))) no_more)))
unfolding read_expressions read_binary read_chain read_postfix_operators read_more_arguments read_path read_items read_suffixes read_params run_of after_run is_type type_words other_types storages inlines occurrences as_often is_among has_typedef are_different read_enumerators read_members read_member_declarators read_initials read_init_declarators read_statements read_block_items read
hides_type_in_initial = refl

-- int T, x = T;
hides_type_behind : chunk types (int_word ∷ T ∷ comma ∷ x ∷ equals ∷ T ∷ semicolon ∷ []) ≡ Some (Outer (Declaration (one_word int_word) (more (plain T) (more (Initializer (Init (ident x) (plain x) (ident T))) no_more))))
unfolding read_expressions read_binary read_chain read_postfix_operators read_more_arguments read_path read_items read_suffixes read_params run_of after_run is_type type_words other_types storages inlines occurrences as_often is_among has_typedef are_different read_enumerators read_members read_member_declarators read_initials read_init_declarators read_statements read_block_items read
hides_type_behind = refl

-- int a = { n, { y }, };
braces : chunk [] (int_word ∷ a ∷ equals ∷ open_brace ∷ n ∷ comma ∷ open_brace ∷ y ∷ close_brace ∷ comma ∷ close_brace ∷ semicolon ∷ []) ≡ Some (Outer (Declaration (one_word int_word) (more (Initializer (Init (ident a) (plain a) (Initializer (Braces (more number (more (Initializer (Braces (more (ident y) no_more) false)) no_more)) true)))) no_more)))
unfolding read_expressions read_binary read_chain read_postfix_operators read_more_arguments read_path read_items read_suffixes read_params run_of after_run is_type type_words other_types storages inlines occurrences as_often is_among has_typedef are_different read_enumerators read_members read_member_declarators read_initials read_init_declarators read_statements read_block_items read
braces = refl

-- int a = { };
empty_braces : chunk [] (int_word ∷ a ∷ equals ∷ open_brace ∷ close_brace ∷ semicolon ∷ []) ≡ Some (Outer (Declaration (one_word int_word) (more (Initializer (Init (ident a) (plain a) (Initializer (Braces no_more false)))) no_more)))
unfolding read_expressions read_binary read_chain read_postfix_operators read_more_arguments read_path read_items read_suffixes read_params run_of after_run is_type type_words other_types storages inlines occurrences as_often is_among has_typedef are_different read_enumerators read_members read_member_declarators read_initials read_init_declarators read_statements read_block_items read
empty_braces = refl

-- int a = {, }; has none
comma_alone_in_braces : chunk [] (int_word ∷ a ∷ equals ∷ open_brace ∷ comma ∷ close_brace ∷ semicolon ∷ []) ≡ None
unfolding read_expressions read_binary read_chain read_postfix_operators read_more_arguments read_path read_items read_suffixes read_params run_of after_run is_type type_words other_types storages inlines occurrences as_often is_among has_typedef are_different read_enumerators read_members read_member_declarators read_initials read_init_declarators read_statements read_block_items read
comma_alone_in_braces = refl

-- int a = x, n; has none: behind the comma a name is wanted
comma_in_initial : chunk [] (int_word ∷ a ∷ equals ∷ x ∷ comma ∷ n ∷ semicolon ∷ []) ≡ None
unfolding read_expressions read_binary read_chain read_postfix_operators read_more_arguments read_path read_items read_suffixes read_params run_of after_run is_type type_words other_types storages inlines occurrences as_often is_among has_typedef are_different read_enumerators read_members read_member_declarators read_initials read_init_declarators read_statements read_block_items read
comma_in_initial = refl

-- int x = T; has none where T is a type
type_in_initial : chunk types (int_word ∷ x ∷ equals ∷ T ∷ semicolon ∷ []) ≡ None
unfolding read_expressions read_binary read_chain read_postfix_operators read_more_arguments read_path read_items read_suffixes read_params run_of after_run is_type type_words other_types storages inlines occurrences as_often is_among has_typedef are_different read_enumerators read_members read_member_declarators read_initials read_init_declarators read_statements read_block_items read
type_in_initial = refl

-- typedef int T, x = T; has none: the T behind the comma is a type
typedef_of_types : chunk [] (typedef_word ∷ int_word ∷ T ∷ comma ∷ x ∷ equals ∷ T ∷ semicolon ∷ []) ≡ None
unfolding read_expressions read_binary read_chain read_postfix_operators read_more_arguments read_path read_items read_suffixes read_params run_of after_run is_type type_words other_types storages inlines occurrences as_often is_among has_typedef are_different read_enumerators read_members read_member_declarators read_initials read_init_declarators read_statements read_block_items read
typedef_of_types = refl

-- int f(int T) { T * n; }
param_hides_type : chunk types (int_word ∷ f ∷ left ∷ int_word ∷ T ∷ right ∷ open_brace ∷ T ∷ star ∷ n ∷ semicolon ∷ close_brace ∷ []) ≡ Some (Outer (Function (one_word int_word) (Declarator (Named [] f (more (Part (Params (more (Specifier (Param (one_word int_word) (present (plain T)))) no_more) false)) no_more))) (Statement (Block (more (Statement (ExprStmt (present (Operation (Binary binary.Multiply (ident T) number))))) no_more)))))
unfolding read_expressions read_binary read_chain read_postfix_operators read_more_arguments read_path read_items read_suffixes read_params run_of after_run is_type type_words other_types storages inlines occurrences as_often is_among has_typedef are_different read_enumerators read_members read_member_declarators read_initials read_init_declarators read_statements read_block_items read
param_hides_type = refl

abbrev with_param_named_as_type : Syntax
with_param_named_as_type = Outer (Function (one_word int_word) (Declarator (Named [] f (more (Part (Params (more (Specifier (Param (one_word int_word) (present (plain T)))) no_more) false)) no_more))) (Statement (Block no_more)))

-- int f(int T) { } T x;
params_end_with_body : (chunk types (int_word ∷ f ∷ left ∷ int_word ∷ T ∷ right ∷ open_brace ∷ close_brace ∷ []) ≡ Some with_param_named_as_type) × (chunk (declared with_param_named_as_type types) (T ∷ x ∷ semicolon ∷ []) ≡ Some (Outer (Declaration (one_word T) (more (plain x) no_more))))
unfolding read_expressions read_binary read_chain read_postfix_operators read_more_arguments read_path read_items read_suffixes read_params run_of after_run is_type type_words other_types storages inlines occurrences as_often is_among has_typedef are_different read_enumerators read_members read_member_declarators read_initials read_init_declarators read_statements read_block_items read
params_end_with_body = (refl, refl)

-- void T(void) { T(); }
own_name_in_body : chunk types (void_word ∷ T ∷ left ∷ void_word ∷ right ∷ open_brace ∷ T ∷ left ∷ right ∷ semicolon ∷ close_brace ∷ []) ≡ Some (Outer (Function (one_word void_word) (of_void T) (Statement (Block (more (Statement (ExprStmt (present (Operation (Call (ident T) no_more))))) no_more)))))
unfolding read_expressions read_binary read_chain read_postfix_operators read_more_arguments read_path read_items read_suffixes read_params run_of after_run is_type type_words other_types storages inlines occurrences as_often is_among has_typedef are_different read_enumerators read_members read_member_declarators read_initials read_init_declarators read_statements read_block_items read
own_name_in_body = refl

abbrev named_as_type : Syntax
named_as_type = Outer (Function (one_word void_word) (of_void T) (Statement (Block no_more)))

-- void T(void) { } T x; has no parse of the second
function_hides_type : (chunk types (void_word ∷ T ∷ left ∷ void_word ∷ right ∷ open_brace ∷ close_brace ∷ []) ≡ Some named_as_type) × (chunk (declared named_as_type types) (T ∷ x ∷ semicolon ∷ []) ≡ None)
unfolding read_expressions read_binary read_chain read_postfix_operators read_more_arguments read_path read_items read_suffixes read_params run_of after_run is_type type_words other_types storages inlines occurrences as_often is_among has_typedef are_different read_enumerators read_members read_member_declarators read_initials read_init_declarators read_statements read_block_items read
function_hides_type = (refl, refl)

-- typedef int f(void) { } has no parse
typedef_of_function : chunk [] (typedef_word ∷ int_word ∷ f ∷ left ∷ void_word ∷ right ∷ open_brace ∷ close_brace ∷ []) ≡ None
unfolding read_expressions read_binary read_chain read_postfix_operators read_more_arguments read_path read_items read_suffixes read_params run_of after_run is_type type_words other_types storages inlines occurrences as_often is_among has_typedef are_different read_enumerators read_members read_member_declarators read_initials read_init_declarators read_statements read_block_items read
typedef_of_function = refl

-- struct s { int a; } f(void) { } has none
body_and_function : chunk [] (struct_word ∷ s ∷ open_brace ∷ int_word ∷ a ∷ semicolon ∷ close_brace ∷ f ∷ left ∷ void_word ∷ right ∷ open_brace ∷ close_brace ∷ []) ≡ None
unfolding read_expressions read_binary read_chain read_postfix_operators read_more_arguments read_path read_items read_suffixes read_params run_of after_run is_type type_words other_types storages inlines occurrences as_often is_among has_typedef are_different read_enumerators read_members read_member_declarators read_initials read_init_declarators read_statements read_block_items read
body_and_function = refl

-- enum { A } f(void) { } has none
enum_and_function : chunk [] (enum_word ∷ open_brace ∷ A ∷ close_brace ∷ f ∷ left ∷ void_word ∷ right ∷ open_brace ∷ close_brace ∷ []) ≡ None
unfolding read_expressions read_binary read_chain read_postfix_operators read_more_arguments read_path read_items read_suffixes read_params run_of after_run is_type type_words other_types storages inlines occurrences as_often is_among has_typedef are_different read_enumerators read_members read_member_declarators read_initials read_init_declarators read_statements read_block_items read
enum_and_function = refl

-- int x { } has none
no_function : chunk [] (int_word ∷ x ∷ open_brace ∷ close_brace ∷ []) ≡ None
unfolding read_expressions read_binary read_chain read_postfix_operators read_more_arguments read_path read_items read_suffixes read_params run_of after_run is_type type_words other_types storages inlines occurrences as_often is_among has_typedef are_different read_enumerators read_members read_member_declarators read_initials read_init_declarators read_statements read_block_items read
no_function = refl

-- int (* f)(void) { } has none: f is first of all a pointer
pointer_to_function : chunk [] (int_word ∷ left ∷ star ∷ f ∷ right ∷ left ∷ void_word ∷ right ∷ open_brace ∷ close_brace ∷ []) ≡ None
unfolding read_expressions read_binary read_chain read_postfix_operators read_more_arguments read_path read_items read_suffixes read_params run_of after_run is_type type_words other_types storages inlines occurrences as_often is_among has_typedef are_different read_enumerators read_members read_member_declarators read_initials read_init_declarators read_statements read_block_items read
pointer_to_function = refl

-- void (f)(void) { }
function_in_parentheses : chunk [] (void_word ∷ left ∷ f ∷ right ∷ left ∷ void_word ∷ right ∷ open_brace ∷ close_brace ∷ []) ≡ Some (Outer (Function (one_word void_word) (Declarator (Nested [] (plain f) (more (Part VoidParams) no_more))) (Statement (Block no_more))))
unfolding read_expressions read_binary read_chain read_postfix_operators read_more_arguments read_path read_items read_suffixes read_params run_of after_run is_type type_words other_types storages inlines occurrences as_often is_among has_typedef are_different read_enumerators read_members read_member_declarators read_initials read_init_declarators read_statements read_block_items read
function_in_parentheses = refl

-- void f(void), g(void) { } has none
two_functions : chunk [] (void_word ∷ f ∷ left ∷ void_word ∷ right ∷ comma ∷ g ∷ left ∷ void_word ∷ right ∷ open_brace ∷ close_brace ∷ []) ≡ None
unfolding read_expressions read_binary read_chain read_postfix_operators read_more_arguments read_path read_items read_suffixes read_params run_of after_run is_type type_words other_types storages inlines occurrences as_often is_among has_typedef are_different read_enumerators read_members read_member_declarators read_initials read_init_declarators read_statements read_block_items read
two_functions = refl

-- struct s f(void) { }
tag_of_function : chunk [] (struct_word ∷ s ∷ f ∷ left ∷ void_word ∷ right ∷ open_brace ∷ close_brace ∷ []) ≡ Some (Outer (Function (Specifier (Specs (more (Specifier (StructTag which_word.Struct s)) no_more))) (of_void f) (Statement (Block no_more))))
unfolding read_expressions read_binary read_chain read_postfix_operators read_more_arguments read_path read_items read_suffixes read_params run_of after_run is_type type_words other_types storages inlines occurrences as_often is_among has_typedef are_different read_enumerators read_members read_member_declarators read_initials read_init_declarators read_statements read_block_items read
tag_of_function = refl

-- void f(void) { case n:; } has none
case_outside : chunk [] (void_word ∷ f ∷ left ∷ void_word ∷ right ∷ open_brace ∷ Reserved words.Case ∷ n ∷ colon ∷ semicolon ∷ close_brace ∷ []) ≡ None
unfolding read_expressions read_binary read_chain read_postfix_operators read_more_arguments read_path read_items read_suffixes read_params run_of after_run is_type type_words other_types storages inlines occurrences as_often is_among has_typedef are_different read_enumerators read_members read_member_declarators read_initials read_init_declarators read_statements read_block_items read
case_outside = refl

-- void f(void) { while (x) default:; } has none
default_outside : chunk [] (void_word ∷ f ∷ left ∷ void_word ∷ right ∷ open_brace ∷ Reserved words.While ∷ left ∷ x ∷ right ∷ Reserved words.Default ∷ colon ∷ semicolon ∷ close_brace ∷ []) ≡ None
unfolding read_expressions read_binary read_chain read_postfix_operators read_more_arguments read_path read_items read_suffixes read_params run_of after_run is_type type_words other_types storages inlines occurrences as_often is_among has_typedef are_different read_enumerators read_members read_member_declarators read_initials read_init_declarators read_statements read_block_items read
default_outside = refl

-- void f(void) { switch (x) { default:; default:; } } has none
two_defaults : chunk [] (void_word ∷ f ∷ left ∷ void_word ∷ right ∷ open_brace ∷ Reserved words.Switch ∷ left ∷ x ∷ right ∷ open_brace ∷ Reserved words.Default ∷ colon ∷ semicolon ∷ Reserved words.Default ∷ colon ∷ semicolon ∷ close_brace ∷ close_brace ∷ []) ≡ None
unfolding read_expressions read_binary read_chain read_postfix_operators read_more_arguments read_path read_items read_suffixes read_params run_of after_run is_type type_words other_types storages inlines occurrences as_often is_among has_typedef are_different read_enumerators read_members read_member_declarators read_initials read_init_declarators read_statements read_block_items read
two_defaults = refl

-- void f(void) { switch (x) { default: switch (y) default:; } }
default_of_each : chunk [] (void_word ∷ f ∷ left ∷ void_word ∷ right ∷ open_brace ∷ Reserved words.Switch ∷ left ∷ x ∷ right ∷ open_brace ∷ Reserved words.Default ∷ colon ∷ Reserved words.Switch ∷ left ∷ y ∷ right ∷ Reserved words.Default ∷ colon ∷ semicolon ∷ close_brace ∷ close_brace ∷ []) ≡ Some (function (more (Statement (Switch (ident x) (Statement (Block (more (Statement (Default (Statement (Switch (ident y) (Statement (Default empty)))))) no_more))))) no_more))
unfolding read_expressions read_binary read_chain read_postfix_operators read_more_arguments read_path read_items read_suffixes read_params run_of after_run is_type type_words other_types storages inlines occurrences as_often is_among has_typedef are_different read_enumerators read_members read_member_declarators read_initials read_init_declarators read_statements read_block_items read
default_of_each = refl

-- void f(void) { switch (x) { case A: case n ? x : y: break; } }
cases : chunk [] (void_word ∷ f ∷ left ∷ void_word ∷ right ∷ open_brace ∷ Reserved words.Switch ∷ left ∷ x ∷ right ∷ open_brace ∷ Reserved words.Case ∷ A ∷ colon ∷ Reserved words.Case ∷ n ∷ Sign marks.Question ∷ x ∷ colon ∷ y ∷ colon ∷ Reserved words.Break ∷ semicolon ∷ close_brace ∷ close_brace ∷ []) ≡ Some (function (more (Statement (Switch (ident x) (Statement (Block (more (Statement (Case (ident A) (Statement (Case (Operation (Cond number (ident x) (ident y))) (Jump Break))))) no_more))))) no_more))
unfolding read_expressions read_binary read_chain read_postfix_operators read_more_arguments read_path read_items read_suffixes read_params run_of after_run is_type type_words other_types storages inlines occurrences as_often is_among has_typedef are_different read_enumerators read_members read_member_declarators read_initials read_init_declarators read_statements read_block_items read
cases = refl

-- void f(void) { break; } has none
break_outside : chunk [] (void_word ∷ f ∷ left ∷ void_word ∷ right ∷ open_brace ∷ Reserved words.Break ∷ semicolon ∷ close_brace ∷ []) ≡ None
unfolding read_expressions read_binary read_chain read_postfix_operators read_more_arguments read_path read_items read_suffixes read_params run_of after_run is_type type_words other_types storages inlines occurrences as_often is_among has_typedef are_different read_enumerators read_members read_member_declarators read_initials read_init_declarators read_statements read_block_items read
break_outside = refl

-- void f(void) { switch (x) continue; } has none
continue_in_switch : chunk [] (void_word ∷ f ∷ left ∷ void_word ∷ right ∷ open_brace ∷ Reserved words.Switch ∷ left ∷ x ∷ right ∷ Reserved words.Continue ∷ semicolon ∷ close_brace ∷ []) ≡ None
unfolding read_expressions read_binary read_chain read_postfix_operators read_more_arguments read_path read_items read_suffixes read_params run_of after_run is_type type_words other_types storages inlines occurrences as_often is_among has_typedef are_different read_enumerators read_members read_member_declarators read_initials read_init_declarators read_statements read_block_items read
continue_in_switch = refl

-- void f(void) { for (; x;) continue; do break; while (x); }
loops : chunk [] (void_word ∷ f ∷ left ∷ void_word ∷ right ∷ open_brace ∷ Reserved words.For ∷ left ∷ semicolon ∷ x ∷ semicolon ∷ right ∷ Reserved words.Continue ∷ semicolon ∷ Reserved words.Do ∷ Reserved words.Break ∷ semicolon ∷ Reserved words.While ∷ left ∷ x ∷ right ∷ semicolon ∷ close_brace ∷ []) ≡ Some (function (more (Iteration (For absent (present (ident x)) absent (Jump Continue))) (more (Iteration (Do (Jump Break) (ident x))) no_more)))
unfolding read_expressions read_binary read_chain read_postfix_operators read_more_arguments read_path read_items read_suffixes read_params run_of after_run is_type type_words other_types storages inlines occurrences as_often is_among has_typedef are_different read_enumerators read_members read_member_declarators read_initials read_init_declarators read_statements read_block_items read
loops = refl

-- void f(void) { goto a; } has none
goto_nowhere : chunk [] (void_word ∷ f ∷ left ∷ void_word ∷ right ∷ open_brace ∷ Reserved words.Goto ∷ a ∷ semicolon ∷ close_brace ∷ []) ≡ None
unfolding read_expressions read_binary read_chain read_postfix_operators read_more_arguments read_path read_items read_suffixes read_params run_of after_run is_type type_words other_types storages inlines occurrences as_often is_among has_typedef are_different read_enumerators read_members read_member_declarators read_initials read_init_declarators read_statements read_block_items read
goto_nowhere = refl

-- void f(void) { goto a; { a: return; } }
gotos : chunk [] (void_word ∷ f ∷ left ∷ void_word ∷ right ∷ open_brace ∷ Reserved words.Goto ∷ a ∷ semicolon ∷ open_brace ∷ a ∷ colon ∷ Reserved words.Return ∷ semicolon ∷ close_brace ∷ close_brace ∷ []) ≡ Some (function (more (Jump (Goto a)) (more (Statement (Block (more (Statement (Label a (Jump (Return absent)))) no_more))) no_more)))
unfolding read_expressions read_binary read_chain read_postfix_operators read_more_arguments read_path read_items read_suffixes read_params run_of after_run is_type type_words other_types storages inlines occurrences as_often is_among has_typedef are_different read_enumerators read_members read_member_declarators read_initials read_init_declarators read_statements read_block_items read
gotos = refl

-- void f(void) { a:; { a:; } } has none
label_twice : chunk [] (void_word ∷ f ∷ left ∷ void_word ∷ right ∷ open_brace ∷ a ∷ colon ∷ semicolon ∷ open_brace ∷ a ∷ colon ∷ semicolon ∷ close_brace ∷ close_brace ∷ []) ≡ None
unfolding read_expressions read_binary read_chain read_postfix_operators read_more_arguments read_path read_items read_suffixes read_params run_of after_run is_type type_words other_types storages inlines occurrences as_often is_among has_typedef are_different read_enumerators read_members read_member_declarators read_initials read_init_declarators read_statements read_block_items read
label_twice = refl

-- void f(void) { a: } has none: a label stands before a statement
label_before_brace : chunk [] (void_word ∷ f ∷ left ∷ void_word ∷ right ∷ open_brace ∷ a ∷ colon ∷ close_brace ∷ []) ≡ None
unfolding read_expressions read_binary read_chain read_postfix_operators read_more_arguments read_path read_items read_suffixes read_params run_of after_run is_type type_words other_types storages inlines occurrences as_often is_among has_typedef are_different read_enumerators read_members read_member_declarators read_initials read_init_declarators read_statements read_block_items read
label_before_brace = refl

-- void f(void) { return x; }
returned : chunk [] (void_word ∷ f ∷ left ∷ void_word ∷ right ∷ open_brace ∷ Reserved words.Return ∷ x ∷ semicolon ∷ close_brace ∷ []) ≡ Some (function (more (Jump (Return (present (ident x)))) no_more))
unfolding read_expressions read_binary read_chain read_postfix_operators read_more_arguments read_path read_items read_suffixes read_params run_of after_run is_type type_words other_types storages inlines occurrences as_often is_among has_typedef are_different read_enumerators read_members read_member_declarators read_initials read_init_declarators read_statements read_block_items read
returned = refl

-- int x; x; has no parse of the second
first_bad : (chunk [] (int_word ∷ x ∷ semicolon ∷ []) ≡ Some (declares_int x)) × (chunk (declared (declares_int x) []) (x ∷ semicolon ∷ []) ≡ None)
unfolding read_expressions read_binary read_chain read_postfix_operators read_more_arguments read_path read_items read_suffixes read_params run_of after_run is_type type_words other_types storages inlines occurrences as_often is_among has_typedef are_different read_enumerators read_members read_member_declarators read_initials read_init_declarators read_statements read_block_items read
first_bad = (refl, refl)

-- void f(void) { T; }
type_alone : chunk types (void_word ∷ f ∷ left ∷ void_word ∷ right ∷ open_brace ∷ T ∷ semicolon ∷ close_brace ∷ []) ≡ Some (function (more (Outer (Declaration (one_word T) no_more)) no_more))
unfolding read_expressions read_binary read_chain read_postfix_operators read_more_arguments read_path read_items read_suffixes read_params run_of after_run is_type type_words other_types storages inlines occurrences as_often is_among has_typedef are_different read_enumerators read_members read_member_declarators read_initials read_init_declarators read_statements read_block_items read
type_alone = refl

-- struct { T : n; } x;
width_of_type : chunk types (struct_word ∷ open_brace ∷ T ∷ colon ∷ n ∷ semicolon ∷ close_brace ∷ x ∷ semicolon ∷ []) ≡ Some (Outer (Declaration (Specifier (Specs (more (Specifier (StructBody which_word.Struct None (more (Specifier (StructDeclaration (one_word T) (more (Specifier (BitField absent number)) no_more))) no_more))) no_more))) (more (plain x) no_more)))
unfolding read_expressions read_binary read_chain read_postfix_operators read_more_arguments read_path read_items read_suffixes read_params run_of after_run is_type type_words other_types storages inlines occurrences as_often is_among has_typedef are_different read_enumerators read_members read_member_declarators read_initials read_init_declarators read_statements read_block_items read
width_of_type = refl

-- void f(void) { typedef int T; } T x; has no parse of the second
typedef_ends_with_block : (chunk [] (void_word ∷ f ∷ left ∷ void_word ∷ right ∷ open_brace ∷ typedef_word ∷ int_word ∷ T ∷ semicolon ∷ close_brace ∷ []) ≡ Some (function (more declares_type no_more))) × (chunk (declared (function (more declares_type no_more)) []) (T ∷ x ∷ semicolon ∷ []) ≡ None)
unfolding read_expressions read_binary read_chain read_postfix_operators read_more_arguments read_path read_items read_suffixes read_params run_of after_run is_type type_words other_types storages inlines occurrences as_often is_among has_typedef are_different read_enumerators read_members read_member_declarators read_initials read_init_declarators read_statements read_block_items read
typedef_ends_with_block = (refl, refl)

abbrev declares_enumerator : Syntax
declares_enumerator = Outer (Declaration (Specifier (Specs (more (Specifier (EnumBody None (more (Part (Enumerator T absent)) no_more) false)) no_more))) no_more)

-- void f(void) { enum { T }; } T x;
enumerator_ends_with_block : (chunk types (void_word ∷ f ∷ left ∷ void_word ∷ right ∷ open_brace ∷ enum_word ∷ open_brace ∷ T ∷ close_brace ∷ semicolon ∷ close_brace ∷ []) ≡ Some (function (more declares_enumerator no_more))) × (chunk (declared (function (more declares_enumerator no_more)) types) (T ∷ x ∷ semicolon ∷ []) ≡ Some (Outer (Declaration (one_word T) (more (plain x) no_more))))
unfolding read_expressions read_binary read_chain read_postfix_operators read_more_arguments read_path read_items read_suffixes read_params run_of after_run is_type type_words other_types storages inlines occurrences as_often is_among has_typedef are_different read_enumerators read_members read_member_declarators read_initials read_init_declarators read_statements read_block_items read
enumerator_ends_with_block = (refl, refl)

-- enum { T }; T x; has no parse of the second
enumerator_hides_type_behind : (chunk types (enum_word ∷ open_brace ∷ T ∷ close_brace ∷ semicolon ∷ []) ≡ Some declares_enumerator) × (chunk (declared declares_enumerator types) (T ∷ x ∷ semicolon ∷ []) ≡ None)
unfolding read_expressions read_binary read_chain read_postfix_operators read_more_arguments read_path read_items read_suffixes read_params run_of after_run is_type type_words other_types storages inlines occurrences as_often is_among has_typedef are_different read_enumerators read_members read_member_declarators read_initials read_init_declarators read_statements read_block_items read
enumerator_hides_type_behind = (refl, refl)

-- void f(void) { switch (x) while (y) { case n: continue; } }
case_in_loop : chunk [] (void_word ∷ f ∷ left ∷ void_word ∷ right ∷ open_brace ∷ Reserved words.Switch ∷ left ∷ x ∷ right ∷ Reserved words.While ∷ left ∷ y ∷ right ∷ open_brace ∷ Reserved words.Case ∷ n ∷ colon ∷ Reserved words.Continue ∷ semicolon ∷ close_brace ∷ close_brace ∷ []) ≡ Some (function (more (Statement (Switch (ident x) (Iteration (While (ident y) (Statement (Block (more (Statement (Case number (Jump Continue))) no_more))))))) no_more))
unfolding read_expressions read_binary read_chain read_postfix_operators read_more_arguments read_path read_items read_suffixes read_params run_of after_run is_type type_words other_types storages inlines occurrences as_often is_among has_typedef are_different read_enumerators read_members read_member_declarators read_initials read_init_declarators read_statements read_block_items read
case_in_loop = refl

-- void f(void) { while (x) switch (y) { default: continue; } }
switch_in_loop : chunk [] (void_word ∷ f ∷ left ∷ void_word ∷ right ∷ open_brace ∷ Reserved words.While ∷ left ∷ x ∷ right ∷ Reserved words.Switch ∷ left ∷ y ∷ right ∷ open_brace ∷ Reserved words.Default ∷ colon ∷ Reserved words.Continue ∷ semicolon ∷ close_brace ∷ close_brace ∷ []) ≡ Some (function (more (Iteration (While (ident x) (Statement (Switch (ident y) (Statement (Block (more (Statement (Default (Jump Continue))) no_more))))))) no_more))
unfolding read_expressions read_binary read_chain read_postfix_operators read_more_arguments read_path read_items read_suffixes read_params run_of after_run is_type type_words other_types storages inlines occurrences as_often is_among has_typedef are_different read_enumerators read_members read_member_declarators read_initials read_init_declarators read_statements read_block_items read
switch_in_loop = refl

-- void f(void) { switch (x) { default:; while (y) default:; } } has none
default_twice_in_loop : chunk [] (void_word ∷ f ∷ left ∷ void_word ∷ right ∷ open_brace ∷ Reserved words.Switch ∷ left ∷ x ∷ right ∷ open_brace ∷ Reserved words.Default ∷ colon ∷ semicolon ∷ Reserved words.While ∷ left ∷ y ∷ right ∷ Reserved words.Default ∷ colon ∷ semicolon ∷ close_brace ∷ close_brace ∷ []) ≡ None
unfolding read_expressions read_binary read_chain read_postfix_operators read_more_arguments read_path read_items read_suffixes read_params run_of after_run is_type type_words other_types storages inlines occurrences as_often is_among has_typedef are_different read_enumerators read_members read_member_declarators read_initials read_init_declarators read_statements read_block_items read
default_twice_in_loop = refl

-- void f(void) { a: b: goto a; }
two_labels : chunk [] (void_word ∷ f ∷ left ∷ void_word ∷ right ∷ open_brace ∷ a ∷ colon ∷ b ∷ colon ∷ Reserved words.Goto ∷ a ∷ semicolon ∷ close_brace ∷ []) ≡ Some (function (more (Statement (Label a (Statement (Label b (Jump (Goto a)))))) no_more))
unfolding read_expressions read_binary read_chain read_postfix_operators read_more_arguments read_path read_items read_suffixes read_params run_of after_run is_type type_words other_types storages inlines occurrences as_often is_among has_typedef are_different read_enumerators read_members read_member_declarators read_initials read_init_declarators read_statements read_block_items read
two_labels = refl

-- void f(void) { for (x; y; x); }
full_loop : chunk [] (void_word ∷ f ∷ left ∷ void_word ∷ right ∷ open_brace ∷ Reserved words.For ∷ left ∷ x ∷ semicolon ∷ y ∷ semicolon ∷ x ∷ right ∷ semicolon ∷ close_brace ∷ []) ≡ Some (function (more (Iteration (For (present (ident x)) (present (ident y)) (present (ident x)) empty)) no_more))
unfolding read_expressions read_binary read_chain read_postfix_operators read_more_arguments read_path read_items read_suffixes read_params run_of after_run is_type type_words other_types storages inlines occurrences as_often is_among has_typedef are_different read_enumerators read_members read_member_declarators read_initials read_init_declarators read_statements read_block_items read
full_loop = refl

-- void f(void) { for (int x;;); } has none
declaration_in_loop : chunk [] (void_word ∷ f ∷ left ∷ void_word ∷ right ∷ open_brace ∷ Reserved words.For ∷ left ∷ int_word ∷ x ∷ semicolon ∷ semicolon ∷ right ∷ semicolon ∷ close_brace ∷ []) ≡ None
unfolding read_expressions read_binary read_chain read_postfix_operators read_more_arguments read_path read_items read_suffixes read_params run_of after_run is_type type_words other_types storages inlines occurrences as_often is_among has_typedef are_different read_enumerators read_members read_member_declarators read_initials read_init_declarators read_statements read_block_items read
declaration_in_loop = refl

-- int (* f(void))[n] { }
pointer_to_array : chunk [] (int_word ∷ left ∷ star ∷ f ∷ left ∷ void_word ∷ right ∷ right ∷ Sign marks.OpenBracket ∷ n ∷ Sign marks.CloseBracket ∷ open_brace ∷ close_brace ∷ []) ≡ Some (Outer (Function (one_word int_word) (Declarator (Nested [] (Declarator (Named (star ∷ []) f (more (Part VoidParams) no_more))) (more (Part (ArrayBound [] (present number))) no_more))) (Statement (Block no_more))))
unfolding read_expressions read_binary read_chain read_postfix_operators read_more_arguments read_path read_items read_suffixes read_params run_of after_run is_type type_words other_types storages inlines occurrences as_often is_among has_typedef are_different read_enumerators read_members read_member_declarators read_initials read_init_declarators read_statements read_block_items read
pointer_to_array = refl

-- struct s;
tag_alone : chunk [] (struct_word ∷ s ∷ semicolon ∷ []) ≡ Some (Outer (Declaration (Specifier (Specs (more (Specifier (StructTag which_word.Struct s)) no_more))) no_more))
unfolding read_expressions read_binary read_chain read_postfix_operators read_more_arguments read_path read_items read_suffixes read_params run_of after_run is_type type_words other_types storages inlines occurrences as_often is_among has_typedef are_different read_enumerators read_members read_member_declarators read_initials read_init_declarators read_statements read_block_items read
tag_alone = refl

-- struct { union { int a; }; } x;
union_in_struct : chunk [] (struct_word ∷ open_brace ∷ Reserved words.Union ∷ open_brace ∷ int_word ∷ a ∷ semicolon ∷ close_brace ∷ semicolon ∷ close_brace ∷ x ∷ semicolon ∷ []) ≡ Some (Outer (Declaration (Specifier (Specs (more (Specifier (StructBody which_word.Struct None (more (Specifier (StructDeclaration (Specifier (Specs (more (Specifier (StructBody which_word.Union None (more (Specifier (StructDeclaration (one_word int_word) (more (plain a) no_more))) no_more))) no_more))) no_more)) no_more))) no_more))) (more (plain x) no_more)))
unfolding read_expressions read_binary read_chain read_postfix_operators read_more_arguments read_path read_items read_suffixes read_params run_of after_run is_type type_words other_types storages inlines occurrences as_often is_among has_typedef are_different read_enumerators read_members read_member_declarators read_initials read_init_declarators read_statements read_block_items read
union_in_struct = refl

-- { { } } has height 2
block_of_height : read 2 OneStatement [] (open_brace ∷ open_brace ∷ close_brace ∷ close_brace ∷ []) ≡ Some ((Statement (Block (more (Statement (Block no_more)) no_more))), [])
unfolding read_expressions read_binary read_chain read_postfix_operators read_more_arguments read_path read_items read_suffixes read_params run_of after_run is_type type_words other_types storages inlines occurrences as_often is_among has_typedef are_different read_enumerators read_members read_member_declarators read_initials read_init_declarators read_statements read_block_items read
block_of_height = refl

-- and is no tree of height 1
too_high : read 1 OneStatement [] (open_brace ∷ open_brace ∷ close_brace ∷ close_brace ∷ []) ≡ None
unfolding read_expressions read_binary read_chain read_postfix_operators read_more_arguments read_path read_items read_suffixes read_params run_of after_run is_type type_words other_types storages inlines occurrences as_often is_among has_typedef are_different read_enumerators read_members read_member_declarators read_initials read_init_declarators read_statements read_block_items read
too_high = refl
