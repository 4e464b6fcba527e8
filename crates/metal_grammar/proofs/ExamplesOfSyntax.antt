-- Texts of which a clause has no parse.
use Rattle.std.proofs.Common.{◌≡◌, [], ◌∷◌, ◌++◌, refl}
use Rattle.c_grammar.specs.Symbols.{run_of, after_run}
use Rattle.c_grammar.specs.Names.{is_type}
use Rattle.c_grammar.specs.Specifiers.{type_words, other_types, storages, inlines, occurrences, as_often, is_among}
use Rattle.c_grammar.specs.Ways.SpecifierSteps.{read_items}
use Rattle.c_grammar.specs.Ways.DeclaratorSteps.{read_params, read_suffixes}
use Rattle.c_grammar.specs.Ways.ExpressionSteps.{read_path, read_more_arguments, read_postfix_operators, read_chain, read_binary}
use Rattle.c_grammar.specs.Reading.{read}
use Rattle.metal_grammar.specs.Ways.Steps.{read_row, read_identifiers}
use Rattle.metal_grammar.specs.FirstFault.{SyntaxAt, Twice}
use Rattle.metal_grammar.specs.Reading.{Refused, read_machine}
use Rattle.metal_grammar.proofs.Vocabulary.{spelling, a, any, any_arguments, any_expr, any_fn_call, b, begun, both, brace, c_const, c_enum, c_float, c_int, c_long, c_sizeof, colon, comma, decl, digits_00, digits_2, dollar, dot, e, end, end_brace, end_of_path, end_paren, equals, f, false_word, g, m, paren, semicolon, sm, start, state, stop, text_2, to, true_word, v, x}

-- no symbols at all
no_symbols : read_machine spelling ([]) ≡ Refused (SyntaxAt 0)
unfolding read_row read_identifiers read read_binary read_chain read_postfix_operators read_more_arguments read_path read_items read_suffixes read_params run_of after_run is_type type_words other_types storages inlines occurrences as_often is_among
no_symbols = refl

-- `sm m`
no_brace : read_machine spelling (sm ∷ m ∷ []) ≡ Refused (SyntaxAt 0)
unfolding read_row read_identifiers read read_binary read_chain read_postfix_operators read_more_arguments read_path read_items read_suffixes read_params run_of after_run is_type type_words other_types storages inlines occurrences as_often is_among
no_brace = refl

-- `sm m { start: { f() } ==> a;`
not_closed : read_machine spelling (sm ∷ m ∷ brace ∷ start ∷ colon ∷ brace ∷ f ∷ paren ∷ end_paren ∷ end_brace ∷ to ∷ a ∷ semicolon ∷ []) ≡ Refused (SyntaxAt 0)
unfolding read_row read_identifiers read read_binary read_chain read_postfix_operators read_more_arguments read_path read_items read_suffixes read_params run_of after_run is_type type_words other_types storages inlines occurrences as_often is_among
not_closed = refl

-- the last clause has no parse where the closing brace is missing:
-- `sm m { start: { f() } ==> a; a: { f() } ==> start;`
last_not_closed : read_machine spelling (sm ∷ m ∷ brace ∷ start ∷ colon ∷ brace ∷ f ∷ paren ∷ end_paren ∷ end_brace ∷ to ∷ a ∷ semicolon ∷ a ∷ colon ∷ brace ∷ f ∷ paren ∷ end_paren ∷ end_brace ∷ to ∷ start ∷ semicolon ∷ []) ≡ Refused (SyntaxAt 13)
unfolding read_row read_identifiers read read_binary read_chain read_postfix_operators read_more_arguments read_path read_items read_suffixes read_params run_of after_run is_type type_words other_types storages inlines occurrences as_often is_among
last_not_closed = refl

-- and where something stands behind it:
-- `sm m { } x`
goes_on : read_machine spelling (sm ∷ m ∷ brace ∷ end_brace ∷ x ∷ []) ≡ Refused (SyntaxAt 0)
unfolding read_row read_identifiers read read_binary read_chain read_postfix_operators read_more_arguments read_path read_items read_suffixes read_params run_of after_run is_type type_words other_types storages inlines occurrences as_often is_among
goes_on = refl

-- `sm m { decl any_expr x; start: { f(x) } ==> a; } x`
last_goes_on : read_machine spelling (sm ∷ m ∷ brace ∷ decl ∷ any_expr ∷ x ∷ semicolon ∷ start ∷ colon ∷ brace ∷ f ∷ paren ∷ x ∷ end_paren ∷ end_brace ∷ to ∷ a ∷ semicolon ∷ end_brace ∷ x ∷ []) ≡ Refused (SyntaxAt 7)
unfolding read_row read_identifiers read read_binary read_chain read_postfix_operators read_more_arguments read_path read_items read_suffixes read_params run_of after_run is_type type_words other_types storages inlines occurrences as_often is_among
last_goes_on = refl

-- what stands behind the last `;` is a clause of its own:
-- `sm m { start: { f() } ==> a; x }`
without_semicolon : read_machine spelling (sm ∷ m ∷ brace ∷ start ∷ colon ∷ brace ∷ f ∷ paren ∷ end_paren ∷ end_brace ∷ to ∷ a ∷ semicolon ∷ x ∷ end_brace ∷ []) ≡ Refused (SyntaxAt 13)
unfolding read_row read_identifiers read read_binary read_chain read_postfix_operators read_more_arguments read_path read_items read_suffixes read_params run_of after_run is_type type_words other_types storages inlines occurrences as_often is_among
without_semicolon = refl

-- the first clause without a parse counts:
-- `sm m { start: f ==> a; decl x; }`
first_of_two : read_machine spelling (sm ∷ m ∷ brace ∷ start ∷ colon ∷ f ∷ to ∷ a ∷ semicolon ∷ decl ∷ x ∷ semicolon ∷ end_brace ∷ []) ≡ Refused (SyntaxAt 0)
unfolding read_row read_identifiers read read_binary read_chain read_postfix_operators read_more_arguments read_path read_items read_suffixes read_params run_of after_run is_type type_words other_types storages inlines occurrences as_often is_among
first_of_two = refl

-- `sm m { start: { f() } ==> a; decl any_expr x; }`
declared_late : read_machine spelling (sm ∷ m ∷ brace ∷ start ∷ colon ∷ brace ∷ f ∷ paren ∷ end_paren ∷ end_brace ∷ to ∷ a ∷ semicolon ∷ decl ∷ any_expr ∷ x ∷ semicolon ∷ end_brace ∷ []) ≡ Refused (SyntaxAt 13)
unfolding read_row read_identifiers read read_binary read_chain read_postfix_operators read_more_arguments read_path read_items read_suffixes read_params run_of after_run is_type type_words other_types storages inlines occurrences as_often is_among
declared_late = refl

-- `sm m { state decl any_arguments v; }`
variable_of_arguments : read_machine spelling (sm ∷ m ∷ brace ∷ state ∷ decl ∷ any_arguments ∷ v ∷ semicolon ∷ end_brace ∷ []) ≡ Refused (SyntaxAt 0)
unfolding read_row read_identifiers read read_binary read_chain read_postfix_operators read_more_arguments read_path read_items read_suffixes read_params run_of after_run is_type type_words other_types storages inlines occurrences as_often is_among
variable_of_arguments = refl

-- `sm m { state decl any_fn_call v; }`
variable_of_calls : read_machine spelling (sm ∷ m ∷ brace ∷ state ∷ decl ∷ any_fn_call ∷ v ∷ semicolon ∷ end_brace ∷ []) ≡ Refused (SyntaxAt 0)
unfolding read_row read_identifiers read read_binary read_chain read_postfix_operators read_more_arguments read_path read_items read_suffixes read_params run_of after_run is_type type_words other_types storages inlines occurrences as_often is_among
variable_of_calls = refl

-- `sm m { decl long float x; }`
no_basic_type : read_machine spelling (sm ∷ m ∷ brace ∷ decl ∷ c_long ∷ c_float ∷ x ∷ semicolon ∷ end_brace ∷ []) ≡ Refused (SyntaxAt 0)
unfolding read_row read_identifiers read read_binary read_chain read_postfix_operators read_more_arguments read_path read_items read_suffixes read_params run_of after_run is_type type_words other_types storages inlines occurrences as_often is_among
no_basic_type = refl

-- `sm m { decl any x; }`
no_kind : read_machine spelling (sm ∷ m ∷ brace ∷ decl ∷ any ∷ x ∷ semicolon ∷ end_brace ∷ []) ≡ Refused (SyntaxAt 0)
unfolding read_row read_identifiers read read_binary read_chain read_postfix_operators read_more_arguments read_path read_items read_suffixes read_params run_of after_run is_type type_words other_types storages inlines occurrences as_often is_among
no_kind = refl

-- `sm m { state decl any_pointer v, w; decl any_expr x; decl any_fn_call g; start: { g } ==> a; }`
callee_elsewhere : read_machine spelling (begun ++ decl ∷ any_fn_call ∷ g ∷ semicolon ∷ start ∷ colon ∷ brace ∷ g ∷ end_brace ∷ to ∷ a ∷ semicolon ∷ end_brace ∷ []) ≡ Refused (SyntaxAt 18)
unfolding read_row read_identifiers read read_binary read_chain read_postfix_operators read_more_arguments read_path read_items read_suffixes read_params run_of after_run is_type type_words other_types storages inlines occurrences as_often is_among
callee_elsewhere = refl

-- parentheses around a callee are seen through:
-- `sm m { state decl any_pointer v, w; decl any_expr x; start: { (x)(a) } ==> a; }`
other_callee : read_machine spelling (begun ++ start ∷ colon ∷ brace ∷ paren ∷ x ∷ end_paren ∷ paren ∷ a ∷ end_paren ∷ end_brace ∷ to ∷ a ∷ semicolon ∷ end_brace ∷ []) ≡ Refused (SyntaxAt 14)
unfolding read_row read_identifiers read read_binary read_chain read_postfix_operators read_more_arguments read_path read_items read_suffixes read_params run_of after_run is_type type_words other_types storages inlines occurrences as_often is_among
other_callee = refl

-- `sm m { state decl any_pointer v, w; decl any_expr x; decl any_arguments b; start: { f(b, x) } ==> a; }`
arguments_first : read_machine spelling (begun ++ decl ∷ any_arguments ∷ b ∷ semicolon ∷ start ∷ colon ∷ brace ∷ f ∷ paren ∷ b ∷ comma ∷ x ∷ end_paren ∷ end_brace ∷ to ∷ a ∷ semicolon ∷ end_brace ∷ []) ≡ Refused (SyntaxAt 18)
unfolding read_row read_identifiers read read_binary read_chain read_postfix_operators read_more_arguments read_path read_items read_suffixes read_params run_of after_run is_type type_words other_types storages inlines occurrences as_often is_among
arguments_first = refl

-- `sm m { state decl any_pointer v, w; decl any_expr x; decl any_arguments b; start: { b } ==> a; }`
arguments_alone : read_machine spelling (begun ++ decl ∷ any_arguments ∷ b ∷ semicolon ∷ start ∷ colon ∷ brace ∷ b ∷ end_brace ∷ to ∷ a ∷ semicolon ∷ end_brace ∷ []) ≡ Refused (SyntaxAt 18)
unfolding read_row read_identifiers read read_binary read_chain read_postfix_operators read_more_arguments read_path read_items read_suffixes read_params run_of after_run is_type type_words other_types storages inlines occurrences as_often is_among
arguments_alone = refl

-- `sm m { state decl any_pointer v, w; decl any_expr x; v.a: $end_of_path$ && { f(v) } ==> v.stop; }`
end_and_pattern : read_machine spelling (begun ++ v ∷ dot ∷ a ∷ colon ∷ dollar ∷ end_of_path ∷ dollar ∷ both ∷ brace ∷ f ∷ paren ∷ v ∷ end_paren ∷ end_brace ∷ to ∷ v ∷ dot ∷ stop ∷ semicolon ∷ end_brace ∷ []) ≡ Refused (SyntaxAt 14)
unfolding read_row read_identifiers read read_binary read_chain read_postfix_operators read_more_arguments read_path read_items read_suffixes read_params run_of after_run is_type type_words other_types storages inlines occurrences as_often is_among
end_and_pattern = refl

-- `sm m { state decl any_pointer v, w; decl any_expr x; v.a: $end$ ==> v.stop; }`
other_dollars : read_machine spelling (begun ++ v ∷ dot ∷ a ∷ colon ∷ dollar ∷ end ∷ dollar ∷ to ∷ v ∷ dot ∷ stop ∷ semicolon ∷ end_brace ∷ []) ≡ Refused (SyntaxAt 14)
unfolding read_row read_identifiers read read_binary read_chain read_postfix_operators read_more_arguments read_path read_items read_suffixes read_params run_of after_run is_type type_words other_types storages inlines occurrences as_often is_among
other_dollars = refl

-- `sm m { start: ${ 2 } ==> a; }`
other_digit : read_machine spelling (sm ∷ m ∷ brace ∷ start ∷ colon ∷ dollar ∷ brace ∷ digits_2 ∷ end_brace ∷ to ∷ a ∷ semicolon ∷ end_brace ∷ []) ≡ Refused (SyntaxAt 0)
unfolding read_row read_identifiers read read_binary read_chain read_postfix_operators read_more_arguments read_path read_items read_suffixes read_params run_of after_run is_type type_words other_types storages inlines occurrences as_often is_among
other_digit = refl

-- a zero that is spelled otherwise is no callout:
-- `sm m { start: ${ 00 } ==> a; }`
other_spelling : read_machine spelling (sm ∷ m ∷ brace ∷ start ∷ colon ∷ dollar ∷ brace ∷ digits_00 ∷ end_brace ∷ to ∷ a ∷ semicolon ∷ end_brace ∷ []) ≡ Refused (SyntaxAt 0)
unfolding read_row read_identifiers read read_binary read_chain read_postfix_operators read_more_arguments read_path read_items read_suffixes read_params run_of after_run is_type type_words other_types storages inlines occurrences as_often is_among
other_spelling = refl

-- `sm m { state decl any_pointer v, w; decl any_expr x; start: { f((const int) v) } ==> v.a; }`
qualified_cast : read_machine spelling (begun ++ start ∷ colon ∷ brace ∷ f ∷ paren ∷ paren ∷ c_const ∷ c_int ∷ end_paren ∷ v ∷ end_paren ∷ end_brace ∷ to ∷ v ∷ dot ∷ a ∷ semicolon ∷ end_brace ∷ []) ≡ Refused (SyntaxAt 14)
unfolding read_row read_identifiers read read_binary read_chain read_postfix_operators read_more_arguments read_path read_items read_suffixes read_params run_of after_run is_type type_words other_types storages inlines occurrences as_often is_among
qualified_cast = refl

-- no name is a type:
-- `sm m { state decl any_pointer v, w; decl any_expr x; start: { (v) x } ==> v.a; }`
cast_to_name : read_machine spelling (begun ++ start ∷ colon ∷ brace ∷ paren ∷ v ∷ end_paren ∷ x ∷ end_brace ∷ to ∷ v ∷ dot ∷ a ∷ semicolon ∷ end_brace ∷ []) ≡ Refused (SyntaxAt 14)
unfolding read_row read_identifiers read read_binary read_chain read_postfix_operators read_more_arguments read_path read_items read_suffixes read_params run_of after_run is_type type_words other_types storages inlines occurrences as_often is_among
cast_to_name = refl

-- `sm m { state decl any_pointer v, w; decl any_expr x; start: { f(sizeof(enum e)) } ==> a; }`
enumeration : read_machine spelling (begun ++ start ∷ colon ∷ brace ∷ f ∷ paren ∷ c_sizeof ∷ paren ∷ c_enum ∷ e ∷ end_paren ∷ end_paren ∷ end_brace ∷ to ∷ a ∷ semicolon ∷ end_brace ∷ []) ≡ Refused (SyntaxAt 14)
unfolding read_row read_identifiers read read_binary read_chain read_postfix_operators read_more_arguments read_path read_items read_suffixes read_params run_of after_run is_type type_words other_types storages inlines occurrences as_often is_among
enumeration = refl

-- `sm m { state decl any_pointer v, w; decl any_expr x; start: { f(v) } ==> v.a, { g(v) } ==> v.b; }`
comma_between_rules : read_machine spelling (begun ++ start ∷ colon ∷ brace ∷ f ∷ paren ∷ v ∷ end_paren ∷ end_brace ∷ to ∷ v ∷ dot ∷ a ∷ comma ∷ brace ∷ g ∷ paren ∷ v ∷ end_paren ∷ end_brace ∷ to ∷ v ∷ dot ∷ b ∷ semicolon ∷ end_brace ∷ []) ≡ Refused (SyntaxAt 14)
unfolding read_row read_identifiers read read_binary read_chain read_postfix_operators read_more_arguments read_path read_items read_suffixes read_params run_of after_run is_type type_words other_types storages inlines occurrences as_often is_among
comma_between_rules = refl

-- `sm m { state decl any_pointer v, w; decl any_expr x; start: { f(v) } ==> true=v.a; }`
one_equals : read_machine spelling (begun ++ start ∷ colon ∷ brace ∷ f ∷ paren ∷ v ∷ end_paren ∷ end_brace ∷ to ∷ true_word ∷ equals ∷ v ∷ dot ∷ a ∷ semicolon ∷ end_brace ∷ []) ≡ Refused (SyntaxAt 14)
unfolding read_row read_identifiers read read_binary read_chain read_postfix_operators read_more_arguments read_path read_items read_suffixes read_params run_of after_run is_type type_words other_types storages inlines occurrences as_often is_among
one_equals = refl

-- `sm m { state decl any_pointer v, w; decl any_expr x; start: { f(v) } ==> false=v.a, true=v.b; }`
other_truth : read_machine spelling (begun ++ start ∷ colon ∷ brace ∷ f ∷ paren ∷ v ∷ end_paren ∷ end_brace ∷ to ∷ false_word ∷ equals ∷ v ∷ dot ∷ a ∷ comma ∷ true_word ∷ equals ∷ v ∷ dot ∷ b ∷ semicolon ∷ end_brace ∷ []) ≡ Refused (SyntaxAt 14)
unfolding read_row read_identifiers read read_binary read_chain read_postfix_operators read_more_arguments read_path read_items read_suffixes read_params run_of after_run is_type type_words other_types storages inlines occurrences as_often is_among
other_truth = refl

-- `sm m { state decl any_pointer v, w; decl any_expr x; start: { f(v) } ==> v.a, { g("a"); }; }`
other_action : read_machine spelling (begun ++ start ∷ colon ∷ brace ∷ f ∷ paren ∷ v ∷ end_paren ∷ end_brace ∷ to ∷ v ∷ dot ∷ a ∷ comma ∷ brace ∷ g ∷ paren ∷ text_2 ∷ end_paren ∷ semicolon ∷ end_brace ∷ semicolon ∷ end_brace ∷ []) ≡ Refused (SyntaxAt 14)
unfolding read_row read_identifiers read read_binary read_chain read_postfix_operators read_more_arguments read_path read_items read_suffixes read_params run_of after_run is_type type_words other_types storages inlines occurrences as_often is_among
other_action = refl

-- of two declarations the first one says where the hole may stand:
-- `sm m { decl any_fn_call x; decl any_expr x; start: { x(a) } ==> b; }`
first_type_counts : read_machine spelling (sm ∷ m ∷ brace ∷ decl ∷ any_fn_call ∷ x ∷ semicolon ∷ decl ∷ any_expr ∷ x ∷ semicolon ∷ start ∷ colon ∷ brace ∷ x ∷ paren ∷ a ∷ end_paren ∷ end_brace ∷ to ∷ b ∷ semicolon ∷ end_brace ∷ []) ≡ Refused (Twice 16 9)
unfolding read_row read_identifiers read read_binary read_chain read_postfix_operators read_more_arguments read_path read_items read_suffixes read_params run_of after_run is_type type_words other_types storages inlines occurrences as_often is_among
first_type_counts = refl
