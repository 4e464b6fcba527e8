-- Each fault once, and a text without one. The holes of most texts are the variables v and w, which take pointers, and x.
use Rattle.std.proofs.Common.{◌≡◌, [], ◌∷◌, ◌++◌, refl}
use Rattle.c_grammar.specs.Symbols.{run_of, after_run}
use Rattle.c_grammar.specs.Names.{is_type}
use Rattle.c_grammar.specs.Specifiers.{type_words, other_types, storages, inlines, occurrences, as_often, is_among}
use Rattle.c_grammar.specs.Ways.SpecifierSteps.{read_items}
use Rattle.c_grammar.specs.Ways.DeclaratorSteps.{read_params, read_suffixes}
use Rattle.c_grammar.specs.Ways.ExpressionSteps.{read_path, read_more_arguments, read_postfix_operators, read_chain, read_binary}
use Rattle.c_grammar.specs.Reading.{read}
use Rattle.metal_grammar.specs.Ways.Steps.{read_row, read_identifiers}
use Rattle.metal_grammar.specs.FirstFault.{SyntaxAt, TooMany, Variables, Twice, UnknownCallout, TwoVariables, BadSplit, BadSource, VariableMissing, BadFormat}
use Rattle.metal_grammar.specs.Reading.{Accepted, Refused, read_machine}
use Rattle.metal_grammar.proofs.Vocabulary.{spelling, a, any_expr, any_scalar, b, begun, both, brace, c, colon, comma, d, decl, dollar, dot, e, end_brace, end_of_path, end_paren, equals, err, f, false_word, g, h, i, m, mc_big, mc_is_local, paren, semicolon, sm, start, state, stop, text_1, to, true_word, v, w, x}

-- `sm m { start: { f( } ==> stop; }`
unfinished_call : read_machine spelling (sm ∷ m ∷ brace ∷ start ∷ colon ∷ brace ∷ f ∷ paren ∷ end_brace ∷ to ∷ stop ∷ semicolon ∷ end_brace ∷ []) ≡ Refused (SyntaxAt 0)
unfolding read_row read_identifiers read read_binary read_chain read_postfix_operators read_more_arguments read_path read_items read_suffixes read_params run_of after_run is_type type_words other_types storages inlines occurrences as_often is_among
unfinished_call = refl

-- `sm m { state decl any_expr a, b, c, d, e, f, g, h, i; }`
nine_variables : read_machine spelling (sm ∷ m ∷ brace ∷ state ∷ decl ∷ any_expr ∷ a ∷ comma ∷ b ∷ comma ∷ c ∷ comma ∷ d ∷ comma ∷ e ∷ comma ∷ f ∷ comma ∷ g ∷ comma ∷ h ∷ comma ∷ i ∷ semicolon ∷ end_brace ∷ []) ≡ Refused (TooMany Variables 0)
unfolding read_row read_identifiers read read_binary read_chain read_postfix_operators read_more_arguments read_path read_items read_suffixes read_params run_of after_run is_type type_words other_types storages inlines occurrences as_often is_among
nine_variables = refl

-- `sm m { decl any_expr x; decl any_scalar x; }`
named_twice : read_machine spelling (sm ∷ m ∷ brace ∷ decl ∷ any_expr ∷ x ∷ semicolon ∷ decl ∷ any_scalar ∷ x ∷ semicolon ∷ end_brace ∷ []) ≡ Refused (Twice 16 9)
unfolding read_row read_identifiers read read_binary read_chain read_postfix_operators read_more_arguments read_path read_items read_suffixes read_params run_of after_run is_type type_words other_types storages inlines occurrences as_often is_among
named_twice = refl

-- `sm m { state decl any_pointer v, w; decl any_expr x; start: { f(x) } && ${ mc_big(x) } ==> a; }`
unknown_callout : read_machine spelling (begun ++ start ∷ colon ∷ brace ∷ f ∷ paren ∷ x ∷ end_paren ∷ end_brace ∷ both ∷ dollar ∷ brace ∷ mc_big ∷ paren ∷ x ∷ end_paren ∷ end_brace ∷ to ∷ a ∷ semicolon ∷ end_brace ∷ []) ≡ Refused (UnknownCallout 21 16)
unfolding read_row read_identifiers read read_binary read_chain read_postfix_operators read_more_arguments read_path read_items read_suffixes read_params run_of after_run is_type type_words other_types storages inlines occurrences as_often is_among
unknown_callout = refl

-- `sm m { state decl any_pointer v, w; decl any_expr x; start: { f(v, w) } ==> v.a; }`
two_variables : read_machine spelling (begun ++ start ∷ colon ∷ brace ∷ f ∷ paren ∷ v ∷ comma ∷ w ∷ end_paren ∷ end_brace ∷ to ∷ v ∷ dot ∷ a ∷ semicolon ∷ end_brace ∷ []) ≡ Refused (TwoVariables 1)
unfolding read_row read_identifiers read read_binary read_chain read_postfix_operators read_more_arguments read_path read_items read_suffixes read_params run_of after_run is_type type_words other_types storages inlines occurrences as_often is_among
two_variables = refl

-- `sm m { state decl any_pointer v, w; decl any_expr x; start: { f(v) } ==> true=v.a, false=b; }`
bad_split : read_machine spelling (begun ++ start ∷ colon ∷ brace ∷ f ∷ paren ∷ v ∷ end_paren ∷ end_brace ∷ to ∷ true_word ∷ equals ∷ v ∷ dot ∷ a ∷ comma ∷ false_word ∷ equals ∷ b ∷ semicolon ∷ end_brace ∷ []) ≡ Refused (BadSplit 1)
unfolding read_row read_identifiers read read_binary read_chain read_postfix_operators read_more_arguments read_path read_items read_suffixes read_params run_of after_run is_type type_words other_types storages inlines occurrences as_often is_among
bad_split = refl

-- `sm m { state decl any_pointer v, w; decl any_expr x; v.a: { f(v) } ==> b; }`
bad_source : read_machine spelling (begun ++ v ∷ dot ∷ a ∷ colon ∷ brace ∷ f ∷ paren ∷ v ∷ end_paren ∷ end_brace ∷ to ∷ b ∷ semicolon ∷ end_brace ∷ []) ≡ Refused (BadSource 1)
unfolding read_row read_identifiers read read_binary read_chain read_postfix_operators read_more_arguments read_path read_items read_suffixes read_params run_of after_run is_type type_words other_types storages inlines occurrences as_often is_among
bad_source = refl

-- `sm m { state decl any_pointer v, w; decl any_expr x; start: { f(x) } ==> v.a; }`
unbound_target : read_machine spelling (begun ++ start ∷ colon ∷ brace ∷ f ∷ paren ∷ x ∷ end_paren ∷ end_brace ∷ to ∷ v ∷ dot ∷ a ∷ semicolon ∷ end_brace ∷ []) ≡ Refused (VariableMissing 1)
unfolding read_row read_identifiers read read_binary read_chain read_postfix_operators read_more_arguments read_path read_items read_suffixes read_params run_of after_run is_type type_words other_types storages inlines occurrences as_often is_among
unbound_target = refl

-- `sm m { state decl any_pointer v, w; decl any_expr x; v.a: $end_of_path$ && ${ mc_is_local(v) } ==> v.stop; }`
unbound_at_end : read_machine spelling (begun ++ v ∷ dot ∷ a ∷ colon ∷ dollar ∷ end_of_path ∷ dollar ∷ both ∷ dollar ∷ brace ∷ mc_is_local ∷ paren ∷ v ∷ end_paren ∷ end_brace ∷ to ∷ v ∷ dot ∷ stop ∷ semicolon ∷ end_brace ∷ []) ≡ Refused (VariableMissing 1)
unfolding read_row read_identifiers read read_binary read_chain read_postfix_operators read_more_arguments read_path read_items read_suffixes read_params run_of after_run is_type type_words other_types storages inlines occurrences as_often is_among
unbound_at_end = refl

-- `sm m { state decl any_pointer v, w; decl any_expr x; start: { f(v) } ==> v.stop, { err("%s"); }; }`
argument_without_message : read_machine spelling (begun ++ start ∷ colon ∷ brace ∷ f ∷ paren ∷ v ∷ end_paren ∷ end_brace ∷ to ∷ v ∷ dot ∷ stop ∷ comma ∷ brace ∷ err ∷ paren ∷ text_1 ∷ end_paren ∷ semicolon ∷ end_brace ∷ semicolon ∷ end_brace ∷ []) ≡ Refused (BadFormat 1)
unfolding read_row read_identifiers read read_binary read_chain read_postfix_operators read_more_arguments read_path read_items read_suffixes read_params run_of after_run is_type type_words other_types storages inlines occurrences as_often is_among
argument_without_message = refl

-- `sm m { }`
no_section : read_machine spelling (sm ∷ m ∷ brace ∷ end_brace ∷ []) ≡ Accepted (record { name = 1; variables = 0; holes = []; globals = []; states = []; rules = [] })
unfolding read_row read_identifiers read read_binary read_chain read_postfix_operators read_more_arguments read_path read_items read_suffixes read_params run_of after_run is_type type_words other_types storages inlines occurrences as_often is_among
no_section = refl
