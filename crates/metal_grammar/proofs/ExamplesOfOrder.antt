-- Which fault comes first, and where.
use Rattle.std.proofs.Common.{◌≡◌, [], ◌∷◌, ◌++◌, refl}
use Rattle.c_grammar.specs.Symbols.{run_of, after_run}
use Rattle.c_grammar.specs.Names.{is_type}
use Rattle.c_grammar.specs.Specifiers.{type_words, other_types, storages, inlines, occurrences, as_often, is_among}
use Rattle.c_grammar.specs.Ways.SpecifierSteps.{read_items}
use Rattle.c_grammar.specs.Ways.DeclaratorSteps.{read_params, read_suffixes}
use Rattle.c_grammar.specs.Ways.ExpressionSteps.{read_path, read_more_arguments, read_postfix_operators, read_chain, read_binary}
use Rattle.c_grammar.specs.Reading.{read}
use Rattle.metal_grammar.specs.Ways.Steps.{read_row, read_identifiers}
use Rattle.metal_grammar.specs.FirstFault.{SyntaxAt, TooMany, Variables, Holes, UnknownCallout, BadSplit, BadSource, VariableMissing, BadFormat}
use Rattle.metal_grammar.specs.Reading.{Refused, read_machine}
use Rattle.metal_grammar.proofs.Vocabulary.{spelling, a, any_expr, b, bar, begun, both, brace, c, colon, comma, d, decl, dollar, dot, e, either, end_brace, end_of_path, end_paren, equals, err, f, false_word, g, h, i, m, mc_identifier, mc_in_function, mc_is_const, mc_is_local, mc_name_is, paren, semicolon, sm, start, state, stop, text_1, text_2, text_3, text_4, text_5, text_6, to, true_word, v, w, x, y}

-- the limit of variables comes first, at the clause that passes it:
-- `sm m { decl any_expr a, b, c, d, e, f, g, h, i, x; state decl any_expr a, b, c, d, e, f, g, h, i; }`
variables_before_holes : read_machine spelling (sm ∷ m ∷ brace ∷ decl ∷ any_expr ∷ a ∷ comma ∷ b ∷ comma ∷ c ∷ comma ∷ d ∷ comma ∷ e ∷ comma ∷ f ∷ comma ∷ g ∷ comma ∷ h ∷ comma ∷ i ∷ comma ∷ x ∷ semicolon ∷ state ∷ decl ∷ any_expr ∷ a ∷ comma ∷ b ∷ comma ∷ c ∷ comma ∷ d ∷ comma ∷ e ∷ comma ∷ f ∷ comma ∷ g ∷ comma ∷ h ∷ comma ∷ i ∷ semicolon ∷ end_brace ∷ []) ≡ Refused (TooMany Variables 25)
unfolding read_row read_identifiers read read_binary read_chain read_postfix_operators read_more_arguments read_path read_items read_suffixes read_params run_of after_run is_type type_words other_types storages inlines occurrences as_often is_among
variables_before_holes = refl

-- both clauses together have more holes than a machine may; that they have names twice comes later:
-- `sm m { decl any_expr a, b, c, d, e, f, g, h, i; decl any_expr a, b, c, d, e, f, g, h; }`
holes_of_two : read_machine spelling (sm ∷ m ∷ brace ∷ decl ∷ any_expr ∷ a ∷ comma ∷ b ∷ comma ∷ c ∷ comma ∷ d ∷ comma ∷ e ∷ comma ∷ f ∷ comma ∷ g ∷ comma ∷ h ∷ comma ∷ i ∷ semicolon ∷ decl ∷ any_expr ∷ a ∷ comma ∷ b ∷ comma ∷ c ∷ comma ∷ d ∷ comma ∷ e ∷ comma ∷ f ∷ comma ∷ g ∷ comma ∷ h ∷ semicolon ∷ end_brace ∷ []) ≡ Refused (TooMany Holes 23)
unfolding read_row read_identifiers read read_binary read_chain read_postfix_operators read_more_arguments read_path read_items read_suffixes read_params run_of after_run is_type type_words other_types storages inlines occurrences as_often is_among
holes_of_two = refl

-- rules are numbered through all sections:
-- `sm m { state decl any_pointer v, w; decl any_expr x; start: { f(v) } ==> v.a; v.a: { g(v) } ==> v.b | { f(v) } ==> b; }`
later_rule : read_machine spelling (begun ++ start ∷ colon ∷ brace ∷ f ∷ paren ∷ v ∷ end_paren ∷ end_brace ∷ to ∷ v ∷ dot ∷ a ∷ semicolon ∷ v ∷ dot ∷ a ∷ colon ∷ brace ∷ g ∷ paren ∷ v ∷ end_paren ∷ end_brace ∷ to ∷ v ∷ dot ∷ b ∷ bar ∷ brace ∷ f ∷ paren ∷ v ∷ end_paren ∷ end_brace ∷ to ∷ b ∷ semicolon ∷ end_brace ∷ []) ≡ Refused (BadSource 3)
unfolding read_row read_identifiers read read_binary read_chain read_postfix_operators read_more_arguments read_path read_items read_suffixes read_params run_of after_run is_type type_words other_types storages inlines occurrences as_often is_among
later_rule = refl

-- `sm m { state decl any_pointer v, w; decl any_expr x; start: { f(v) } ==> v.a | { g(v) } && ${ mc_is_local() } ==> v.b; }`
rule_of_callout : read_machine spelling (begun ++ start ∷ colon ∷ brace ∷ f ∷ paren ∷ v ∷ end_paren ∷ end_brace ∷ to ∷ v ∷ dot ∷ a ∷ bar ∷ brace ∷ g ∷ paren ∷ v ∷ end_paren ∷ end_brace ∷ both ∷ dollar ∷ brace ∷ mc_is_local ∷ paren ∷ end_paren ∷ end_brace ∷ to ∷ v ∷ dot ∷ b ∷ semicolon ∷ end_brace ∷ []) ≡ Refused (SyntaxAt 14)
unfolding read_row read_identifiers read read_binary read_chain read_postfix_operators read_more_arguments read_path read_items read_suffixes read_params run_of after_run is_type type_words other_types storages inlines occurrences as_often is_among
rule_of_callout = refl

-- all faults of a rule come before those of the next:
-- `sm m { state decl any_pointer v, w; decl any_expr x; start: { f(v) } ==> b, { err("%d"); } | { f(v, w) } ==> v.a; }`
earlier_rule : read_machine spelling (begun ++ start ∷ colon ∷ brace ∷ f ∷ paren ∷ v ∷ end_paren ∷ end_brace ∷ to ∷ b ∷ comma ∷ brace ∷ err ∷ paren ∷ text_3 ∷ end_paren ∷ semicolon ∷ end_brace ∷ bar ∷ brace ∷ f ∷ paren ∷ v ∷ comma ∷ w ∷ end_paren ∷ end_brace ∷ to ∷ v ∷ dot ∷ a ∷ semicolon ∷ end_brace ∷ []) ≡ Refused (BadSource 1)
unfolding read_row read_identifiers read read_binary read_chain read_postfix_operators read_more_arguments read_path read_items read_suffixes read_params run_of after_run is_type type_words other_types storages inlines occurrences as_often is_among
earlier_rule = refl

-- the position is that of the rule; `mc_in_function` asks of a text:
-- `sm m { state decl any_pointer v, w; decl any_expr x; start: { f(v) } ==> v.a | { g(v) } && ${ mc_in_function(v) } ==> v.b; }`
second_callout : read_machine spelling (begun ++ start ∷ colon ∷ brace ∷ f ∷ paren ∷ v ∷ end_paren ∷ end_brace ∷ to ∷ v ∷ dot ∷ a ∷ bar ∷ brace ∷ g ∷ paren ∷ v ∷ end_paren ∷ end_brace ∷ both ∷ dollar ∷ brace ∷ mc_in_function ∷ paren ∷ v ∷ end_paren ∷ end_brace ∷ to ∷ v ∷ dot ∷ b ∷ semicolon ∷ end_brace ∷ []) ≡ Refused (UnknownCallout 36 27)
unfolding read_row read_identifiers read read_binary read_chain read_postfix_operators read_more_arguments read_path read_items read_suffixes read_params run_of after_run is_type type_words other_types storages inlines occurrences as_often is_among
second_callout = refl

-- `sm m { state decl any_pointer v, w; decl any_expr x; start: { f(v) } && ${ mc_name_is(v) } ==> v.a; }`
without_text : read_machine spelling (begun ++ start ∷ colon ∷ brace ∷ f ∷ paren ∷ v ∷ end_paren ∷ end_brace ∷ both ∷ dollar ∷ brace ∷ mc_name_is ∷ paren ∷ v ∷ end_paren ∷ end_brace ∷ to ∷ v ∷ dot ∷ a ∷ semicolon ∷ end_brace ∷ []) ≡ Refused (UnknownCallout 37 16)
unfolding read_row read_identifiers read read_binary read_chain read_postfix_operators read_more_arguments read_path read_items read_suffixes read_params run_of after_run is_type type_words other_types storages inlines occurrences as_often is_among
without_text = refl

-- a global state that is spelled like a variable is no mention of it:
-- `sm m { state decl any_pointer v, w; decl any_expr x; v: { f(w) } ==> w.a; }`
global_like_variable : read_machine spelling (begun ++ v ∷ colon ∷ brace ∷ f ∷ paren ∷ w ∷ end_paren ∷ end_brace ∷ to ∷ w ∷ dot ∷ a ∷ semicolon ∷ end_brace ∷ []) ≡ Refused (BadSource 1)
unfolding read_row read_identifiers read read_binary read_chain read_postfix_operators read_more_arguments read_path read_items read_suffixes read_params run_of after_run is_type type_words other_types storages inlines occurrences as_often is_among
global_like_variable = refl

-- both targets are of one name, which is no variable:
-- `sm m { state decl any_pointer v, w; decl any_expr x; start: { f(x) } ==> true=x.a, false=x.b; }`
split_of_no_variable : read_machine spelling (begun ++ start ∷ colon ∷ brace ∷ f ∷ paren ∷ x ∷ end_paren ∷ end_brace ∷ to ∷ true_word ∷ equals ∷ x ∷ dot ∷ a ∷ comma ∷ false_word ∷ equals ∷ x ∷ dot ∷ b ∷ semicolon ∷ end_brace ∷ []) ≡ Refused (BadSource 1)
unfolding read_row read_identifiers read read_binary read_chain read_postfix_operators read_more_arguments read_path read_items read_suffixes read_params run_of after_run is_type type_words other_types storages inlines occurrences as_often is_among
split_of_no_variable = refl

-- `sm m { state decl any_pointer v, w; decl any_expr x; start: { f(v) } ==> true=v.a, false=v.b, { err("a"); }; }`
split_with_action : read_machine spelling (begun ++ start ∷ colon ∷ brace ∷ f ∷ paren ∷ v ∷ end_paren ∷ end_brace ∷ to ∷ true_word ∷ equals ∷ v ∷ dot ∷ a ∷ comma ∷ false_word ∷ equals ∷ v ∷ dot ∷ b ∷ comma ∷ brace ∷ err ∷ paren ∷ text_2 ∷ end_paren ∷ semicolon ∷ end_brace ∷ semicolon ∷ end_brace ∷ []) ≡ Refused (BadSplit 1)
unfolding read_row read_identifiers read read_binary read_chain read_postfix_operators read_more_arguments read_path read_items read_suffixes read_params run_of after_run is_type type_words other_types storages inlines occurrences as_often is_among
split_with_action = refl

-- `sm m { state decl any_pointer v, w; decl any_expr x; v.a: $end_of_path$ ==> true=v.b, false=v.c; }`
split_at_end : read_machine spelling (begun ++ v ∷ dot ∷ a ∷ colon ∷ dollar ∷ end_of_path ∷ dollar ∷ to ∷ true_word ∷ equals ∷ v ∷ dot ∷ b ∷ comma ∷ false_word ∷ equals ∷ v ∷ dot ∷ c ∷ semicolon ∷ end_brace ∷ []) ≡ Refused (BadSplit 1)
unfolding read_row read_identifiers read read_binary read_chain read_postfix_operators read_more_arguments read_path read_items read_suffixes read_params run_of after_run is_type type_words other_types storages inlines occurrences as_often is_among
split_at_end = refl

-- `sm m { stop: { f() } ==> a; }`
from_stop : read_machine spelling (sm ∷ m ∷ brace ∷ stop ∷ colon ∷ brace ∷ f ∷ paren ∷ end_paren ∷ end_brace ∷ to ∷ a ∷ semicolon ∷ end_brace ∷ []) ≡ Refused (BadSource 1)
unfolding read_row read_identifiers read read_binary read_chain read_postfix_operators read_more_arguments read_path read_items read_suffixes read_params run_of after_run is_type type_words other_types storages inlines occurrences as_often is_among
from_stop = refl

-- `sm m { state decl any_pointer v, w; decl any_expr x; v.stop: { f(v) } ==> v.a; }`
from_stop_of_variable : read_machine spelling (begun ++ v ∷ dot ∷ stop ∷ colon ∷ brace ∷ f ∷ paren ∷ v ∷ end_paren ∷ end_brace ∷ to ∷ v ∷ dot ∷ a ∷ semicolon ∷ end_brace ∷ []) ≡ Refused (BadSource 1)
unfolding read_row read_identifiers read read_binary read_chain read_postfix_operators read_more_arguments read_path read_items read_suffixes read_params run_of after_run is_type type_words other_types storages inlines occurrences as_often is_among
from_stop_of_variable = refl

-- `sm m { state decl any_pointer v, w; decl any_expr x; start: { f(v) } ==> a; }`
global_about_variable : read_machine spelling (begun ++ start ∷ colon ∷ brace ∷ f ∷ paren ∷ v ∷ end_paren ∷ end_brace ∷ to ∷ a ∷ semicolon ∷ end_brace ∷ []) ≡ Refused (BadSource 1)
unfolding read_row read_identifiers read read_binary read_chain read_postfix_operators read_more_arguments read_path read_items read_suffixes read_params run_of after_run is_type type_words other_types storages inlines occurrences as_often is_among
global_about_variable = refl

-- a pattern of each alternative binds the variable:
-- `sm m { state decl any_pointer v, w; decl any_expr x; start: { f(v) } || { g() } ==> v.a; }`
unbound_in_one : read_machine spelling (begun ++ start ∷ colon ∷ brace ∷ f ∷ paren ∷ v ∷ end_paren ∷ end_brace ∷ either ∷ brace ∷ g ∷ paren ∷ end_paren ∷ end_brace ∷ to ∷ v ∷ dot ∷ a ∷ semicolon ∷ end_brace ∷ []) ≡ Refused (VariableMissing 1)
unfolding read_row read_identifiers read read_binary read_chain read_postfix_operators read_more_arguments read_path read_items read_suffixes read_params run_of after_run is_type type_words other_types storages inlines occurrences as_often is_among
unbound_in_one = refl

-- `sm m { state decl any_pointer v, w; decl any_expr x; start: { f(v) } ==> v.a, { err("%s", mc_identifier(x)); }; }`
unbound_in_action : read_machine spelling (begun ++ start ∷ colon ∷ brace ∷ f ∷ paren ∷ v ∷ end_paren ∷ end_brace ∷ to ∷ v ∷ dot ∷ a ∷ comma ∷ brace ∷ err ∷ paren ∷ text_1 ∷ comma ∷ mc_identifier ∷ paren ∷ x ∷ end_paren ∷ end_paren ∷ semicolon ∷ end_brace ∷ semicolon ∷ end_brace ∷ []) ≡ Refused (VariableMissing 1)
unfolding read_row read_identifiers read read_binary read_chain read_postfix_operators read_more_arguments read_path read_items read_suffixes read_params run_of after_run is_type type_words other_types storages inlines occurrences as_often is_among
unbound_in_action = refl

-- a name that is no hole is never bound:
-- `sm m { state decl any_pointer v, w; decl any_expr x; start: { f(v, y) } && ${ mc_is_const(y) } ==> v.a; }`
no_hole : read_machine spelling (begun ++ start ∷ colon ∷ brace ∷ f ∷ paren ∷ v ∷ comma ∷ y ∷ end_paren ∷ end_brace ∷ both ∷ dollar ∷ brace ∷ mc_is_const ∷ paren ∷ y ∷ end_paren ∷ end_brace ∷ to ∷ v ∷ dot ∷ a ∷ semicolon ∷ end_brace ∷ []) ≡ Refused (VariableMissing 1)
unfolding read_row read_identifiers read read_binary read_chain read_postfix_operators read_more_arguments read_path read_items read_suffixes read_params run_of after_run is_type type_words other_types storages inlines occurrences as_often is_among
no_hole = refl

-- `sm m { state decl any_pointer v, w; decl any_expr x; start: $end_of_path$ ==> v.a; }`
target_at_end : read_machine spelling (begun ++ start ∷ colon ∷ dollar ∷ end_of_path ∷ dollar ∷ to ∷ v ∷ dot ∷ a ∷ semicolon ∷ end_brace ∷ []) ≡ Refused (VariableMissing 1)
unfolding read_row read_identifiers read read_binary read_chain read_postfix_operators read_more_arguments read_path read_items read_suffixes read_params run_of after_run is_type type_words other_types storages inlines occurrences as_often is_among
target_at_end = refl

-- `sm m { state decl any_pointer v, w; decl any_expr x; start: { f(v) } ==> v.a, { err(L"a"); }; }`
wide_message : read_machine spelling (begun ++ start ∷ colon ∷ brace ∷ f ∷ paren ∷ v ∷ end_paren ∷ end_brace ∷ to ∷ v ∷ dot ∷ a ∷ comma ∷ brace ∷ err ∷ paren ∷ text_4 ∷ end_paren ∷ semicolon ∷ end_brace ∷ semicolon ∷ end_brace ∷ []) ≡ Refused (BadFormat 1)
unfolding read_row read_identifiers read read_binary read_chain read_postfix_operators read_more_arguments read_path read_items read_suffixes read_params run_of after_run is_type type_words other_types storages inlines occurrences as_often is_among
wide_message = refl

-- `sm m { state decl any_pointer v, w; decl any_expr x; start: { f(v) } ==> v.a, { err("\n"); }; }`
other_escape : read_machine spelling (begun ++ start ∷ colon ∷ brace ∷ f ∷ paren ∷ v ∷ end_paren ∷ end_brace ∷ to ∷ v ∷ dot ∷ a ∷ comma ∷ brace ∷ err ∷ paren ∷ text_5 ∷ end_paren ∷ semicolon ∷ end_brace ∷ semicolon ∷ end_brace ∷ []) ≡ Refused (BadFormat 1)
unfolding read_row read_identifiers read read_binary read_chain read_postfix_operators read_more_arguments read_path read_items read_suffixes read_params run_of after_run is_type type_words other_types storages inlines occurrences as_often is_among
other_escape = refl

-- `sm m { state decl any_pointer v, w; decl any_expr x; start: { f(v) } ==> v.a, { err("%d", mc_identifier(v)); }; }`
other_directive : read_machine spelling (begun ++ start ∷ colon ∷ brace ∷ f ∷ paren ∷ v ∷ end_paren ∷ end_brace ∷ to ∷ v ∷ dot ∷ a ∷ comma ∷ brace ∷ err ∷ paren ∷ text_3 ∷ comma ∷ mc_identifier ∷ paren ∷ v ∷ end_paren ∷ end_paren ∷ semicolon ∷ end_brace ∷ semicolon ∷ end_brace ∷ []) ≡ Refused (BadFormat 1)
unfolding read_row read_identifiers read read_binary read_chain read_postfix_operators read_more_arguments read_path read_items read_suffixes read_params run_of after_run is_type type_words other_types storages inlines occurrences as_often is_among
other_directive = refl

-- `sm m { state decl any_pointer v, w; decl any_expr x; start: { f(v) } ==> v.a, { err("%%", mc_identifier(v)); }; }`
argument_left : read_machine spelling (begun ++ start ∷ colon ∷ brace ∷ f ∷ paren ∷ v ∷ end_paren ∷ end_brace ∷ to ∷ v ∷ dot ∷ a ∷ comma ∷ brace ∷ err ∷ paren ∷ text_6 ∷ comma ∷ mc_identifier ∷ paren ∷ v ∷ end_paren ∷ end_paren ∷ semicolon ∷ end_brace ∷ semicolon ∷ end_brace ∷ []) ≡ Refused (BadFormat 1)
unfolding read_row read_identifiers read read_binary read_chain read_postfix_operators read_more_arguments read_path read_items read_suffixes read_params run_of after_run is_type type_words other_types storages inlines occurrences as_often is_among
argument_left = refl
