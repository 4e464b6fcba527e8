-- Texts and their machines.
use Rattle.std.specs.Prelude.{codes}
use Rattle.std.proofs.Common.{◌≡◌, true, false, [], ◌∷◌, ◌++◌, None, Some, refl}
use Rattle.c_tree.specs.declared.keyword.Keyword.TheVariants as words
use Rattle.c_tree.specs.declared.operator.StructOrUnion.TheVariants as which_word
use Rattle.c_tree.specs.declared.operator.UnaryOp.TheVariants as unary
use Rattle.c_tree.specs.Symbol.{Symbol}
use Rattle.c_tree.specs.Syntax.{Syntax, Primary, Operation, Specifier, Declarator, Part, Ident, Paren, Hole, Index, Call, Unary, Cast, TypeName, Specs, Unnamed, SpecWord, present, no_more, more}
use Rattle.c_grammar.specs.Symbols.{run_of, after_run}
use Rattle.c_grammar.specs.Names.{is_type}
use Rattle.c_grammar.specs.Specifiers.{type_words, other_types, storages, inlines, occurrences, as_often, is_among}
use Rattle.c_grammar.specs.Ways.SpecifierSteps.{read_items}
use Rattle.c_grammar.specs.Ways.DeclaratorSteps.{read_params, read_suffixes}
use Rattle.c_grammar.specs.Ways.ExpressionSteps.{read_path, read_more_arguments, read_postfix_operators, read_chain, read_binary}
use Rattle.c_grammar.specs.Reading.{read}
use Rattle.metal_grammar.specs.Ways.Steps.{read_row, read_identifiers}
use Rattle.metal_tree.specs.MetalMachines.Machine.{IsConst, IsLocal, NameIs, InFunction, NeverHolds, AlwaysHolds, AnyExpr, AnyPointer, AnyArguments, AnyFnCall, Named, Basic, Tag, Pointer, Bytes, HoleText, FromGlobal, FromObject, ToGlobal, ToObject, ToUnknown, Always, ByTruth, Base, Holds, EndOfPath}
use Rattle.metal_grammar.specs.Reading.{Accepted, read_machine}
use Rattle.metal_grammar.proofs.Vocabulary.{spelling, a, any_arguments, any_expr, any_fn_call, any_pointer, b, bar, begun, both, brace, bracket, c, c_int, c_struct, cli, colon, comma, d, decl, digits_0, digits_1, dollar, dot, either, end_brace, end_bracket, end_of_path, end_paren, equals, err, f, false_word, free_checker, freed, g, irq, kfree, l, lock, lock_checker, locked, m, mc_identifier, mc_in_function, mc_is_const, mc_is_local, mc_name_is, negation, off, paren, s, semicolon, sm, star, start, state, sti, stop, text_10, text_11, text_12, text_13, text_14, text_15, text_2, text_7, text_8, text_9, to, true_word, trylock, unlock, v, x, y}

abbrev ident : Symbol → Syntax
ident s = Primary (Ident s)

-- the type name `int *`
abbrev int_pointer : Syntax
int_pointer = Specifier (TypeName (Specifier (Specs (more (Part (SpecWord c_int)) no_more))) (present (Declarator (Unnamed (star ∷ []) no_more))))

--     sm free_checker {
--      state decl any_pointer v;
--      start: { kfree(v) } ==> v.freed ;
--      v.freed: { *v } ==> v.stop, { err("using %s after free!", mc_identifier(v)); }
--             | { kfree(v) } ==> v.stop, { err("double free of %s!", mc_identifier(v)); } ;
--     }
free_checker_machine : read_machine spelling (sm ∷ free_checker ∷ brace ∷ state ∷ decl ∷ any_pointer ∷ v ∷ semicolon ∷ start ∷ colon ∷ brace ∷ kfree ∷ paren ∷ v ∷ end_paren ∷ end_brace ∷ to ∷ v ∷ dot ∷ freed ∷ semicolon ∷ v ∷ dot ∷ freed ∷ colon ∷ brace ∷ star ∷ v ∷ end_brace ∷ to ∷ v ∷ dot ∷ stop ∷ comma ∷ brace ∷ err ∷ paren ∷ text_7 ∷ comma ∷ mc_identifier ∷ paren ∷ v ∷ end_paren ∷ end_paren ∷ semicolon ∷ end_brace ∷ bar ∷ brace ∷ kfree ∷ paren ∷ v ∷ end_paren ∷ end_brace ∷ to ∷ v ∷ dot ∷ stop ∷ comma ∷ brace ∷ err ∷ paren ∷ text_8 ∷ comma ∷ mc_identifier ∷ paren ∷ v ∷ end_paren ∷ end_paren ∷ semicolon ∷ end_brace ∷ semicolon ∷ end_brace ∷ []) ≡ Accepted (record {
  name = 44;
  variables = 1;
  holes = record { name = 19; of = AnyPointer } ∷ [];
  globals = [];
  states = (46 ∷ []) ∷ [];
  rules =
      (record { number = 1; position = 10; source = FromGlobal 0; alternatives = (Base (Operation (Call (ident kfree) (more (Primary (Hole 0)) no_more))) ∷ []) ∷ []; dest = Always (ToObject 0 0); action = None })
      ∷ (record { number = 2; position = 25; source = FromObject 0 0; alternatives = (Base (Operation (Unary unary.Deref (Primary (Hole 0)))) ∷ []) ∷ []; dest = Always (ToUnknown 0); action = Some (Bytes (codes "using ") ∷ HoleText 0 ∷ Bytes (codes " after free!") ∷ []) })
      ∷ (record { number = 3; position = 47; source = FromObject 0 0; alternatives = (Base (Operation (Call (ident kfree) (more (Primary (Hole 0)) no_more))) ∷ []) ∷ []; dest = Always (ToUnknown 0); action = Some (Bytes (codes "double free of ") ∷ HoleText 0 ∷ Bytes (codes "!") ∷ []) })
      ∷ [];
})
unfolding read_row read_identifiers read read_binary read_chain read_postfix_operators read_more_arguments read_path read_items read_suffixes read_params run_of after_run is_type type_words other_types storages inlines occurrences as_often is_among
free_checker_machine = refl

--     sm lock_checker {
--      state decl any_pointer l;
--      start: { trylock(l) } ==> true=l.locked, false=l.stop
--           | { lock(l) } ==> l.locked
--           | { unlock(l) } ==> l.stop, { err("releasing unacquired lock %s!", mc_identifier(l)); } ;
--      l.locked: { lock(l) } ==> l.stop, { err("double acquire of %s!", mc_identifier(l)); }
--           | { unlock(l) } ==> l.stop
--           | $end_of_path$ ==> l.stop, { err("lock %s not released!", mc_identifier(l)); } ;
--     }
lock_checker_machine : read_machine spelling (sm ∷ lock_checker ∷ brace ∷ state ∷ decl ∷ any_pointer ∷ l ∷ semicolon ∷ start ∷ colon ∷ brace ∷ trylock ∷ paren ∷ l ∷ end_paren ∷ end_brace ∷ to ∷ true_word ∷ equals ∷ l ∷ dot ∷ locked ∷ comma ∷ false_word ∷ equals ∷ l ∷ dot ∷ stop ∷ bar ∷ brace ∷ lock ∷ paren ∷ l ∷ end_paren ∷ end_brace ∷ to ∷ l ∷ dot ∷ locked ∷ bar ∷ brace ∷ unlock ∷ paren ∷ l ∷ end_paren ∷ end_brace ∷ to ∷ l ∷ dot ∷ stop ∷ comma ∷ brace ∷ err ∷ paren ∷ text_9 ∷ comma ∷ mc_identifier ∷ paren ∷ l ∷ end_paren ∷ end_paren ∷ semicolon ∷ end_brace ∷ semicolon ∷ l ∷ dot ∷ locked ∷ colon ∷ brace ∷ lock ∷ paren ∷ l ∷ end_paren ∷ end_brace ∷ to ∷ l ∷ dot ∷ stop ∷ comma ∷ brace ∷ err ∷ paren ∷ text_10 ∷ comma ∷ mc_identifier ∷ paren ∷ l ∷ end_paren ∷ end_paren ∷ semicolon ∷ end_brace ∷ bar ∷ brace ∷ unlock ∷ paren ∷ l ∷ end_paren ∷ end_brace ∷ to ∷ l ∷ dot ∷ stop ∷ bar ∷ dollar ∷ end_of_path ∷ dollar ∷ to ∷ l ∷ dot ∷ stop ∷ comma ∷ brace ∷ err ∷ paren ∷ text_11 ∷ comma ∷ mc_identifier ∷ paren ∷ l ∷ end_paren ∷ end_paren ∷ semicolon ∷ end_brace ∷ semicolon ∷ end_brace ∷ []) ≡ Accepted (record {
  name = 49;
  variables = 1;
  holes = record { name = 50; of = AnyPointer } ∷ [];
  globals = [];
  states = (52 ∷ []) ∷ [];
  rules =
      (record { number = 1; position = 10; source = FromGlobal 0; alternatives = (Base (Operation (Call (ident trylock) (more (Primary (Hole 0)) no_more))) ∷ []) ∷ []; dest = ByTruth (ToObject 0 0) (ToUnknown 0); action = None })
      ∷ (record { number = 2; position = 29; source = FromGlobal 0; alternatives = (Base (Operation (Call (ident lock) (more (Primary (Hole 0)) no_more))) ∷ []) ∷ []; dest = Always (ToObject 0 0); action = None })
      ∷ (record { number = 3; position = 40; source = FromGlobal 0; alternatives = (Base (Operation (Call (ident unlock) (more (Primary (Hole 0)) no_more))) ∷ []) ∷ []; dest = Always (ToUnknown 0); action = Some (Bytes (codes "releasing unacquired lock ") ∷ HoleText 0 ∷ Bytes (codes "!") ∷ []) })
      ∷ (record { number = 4; position = 68; source = FromObject 0 0; alternatives = (Base (Operation (Call (ident lock) (more (Primary (Hole 0)) no_more))) ∷ []) ∷ []; dest = Always (ToUnknown 0); action = Some (Bytes (codes "double acquire of ") ∷ HoleText 0 ∷ Bytes (codes "!") ∷ []) })
      ∷ (record { number = 5; position = 92; source = FromObject 0 0; alternatives = (Base (Operation (Call (ident unlock) (more (Primary (Hole 0)) no_more))) ∷ []) ∷ []; dest = Always (ToUnknown 0); action = None })
      ∷ (record { number = 6; position = 103; source = FromObject 0 0; alternatives = (EndOfPath ∷ []) ∷ []; dest = Always (ToUnknown 0); action = Some (Bytes (codes "lock ") ∷ HoleText 0 ∷ Bytes (codes " not released!") ∷ []) })
      ∷ [];
})
unfolding read_row read_identifiers read read_binary read_chain read_postfix_operators read_more_arguments read_path read_items read_suffixes read_params run_of after_run is_type type_words other_types storages inlines occurrences as_often is_among
lock_checker_machine = refl

-- `start` is 0, `stop` is 1, and the others follow as they are mentioned:
--     sm irq { start: { cli() } ==> off; off: { sti() } ==> start | $end_of_path$ ==> stop, { err("interrupts left off"); }; }
states_of_machine : read_machine spelling (sm ∷ irq ∷ brace ∷ start ∷ colon ∷ brace ∷ cli ∷ paren ∷ end_paren ∷ end_brace ∷ to ∷ off ∷ semicolon ∷ off ∷ colon ∷ brace ∷ sti ∷ paren ∷ end_paren ∷ end_brace ∷ to ∷ start ∷ bar ∷ dollar ∷ end_of_path ∷ dollar ∷ to ∷ stop ∷ comma ∷ brace ∷ err ∷ paren ∷ text_12 ∷ end_paren ∷ semicolon ∷ end_brace ∷ semicolon ∷ end_brace ∷ []) ≡ Accepted (record {
  name = 58;
  variables = 0;
  holes = [];
  globals = 60 ∷ [];
  states = [];
  rules =
      (record { number = 1; position = 5; source = FromGlobal 0; alternatives = (Base (Operation (Call (ident cli) no_more)) ∷ []) ∷ []; dest = Always (ToGlobal 2); action = None })
      ∷ (record { number = 2; position = 15; source = FromGlobal 2; alternatives = (Base (Operation (Call (ident sti) no_more)) ∷ []) ∷ []; dest = Always (ToGlobal 0); action = None })
      ∷ (record { number = 3; position = 23; source = FromGlobal 2; alternatives = (EndOfPath ∷ []) ∷ []; dest = Always (ToGlobal 1); action = Some (Bytes (codes "interrupts left off") ∷ []) })
      ∷ [];
})
unfolding read_row read_identifiers read read_binary read_chain read_postfix_operators read_more_arguments read_path read_items read_suffixes read_params run_of after_run is_type type_words other_types storages inlines occurrences as_often is_among
states_of_machine = refl

-- state variables are the first holes; states have their numbers as they are mentioned:
--     sm m { decl any_expr x; state decl int *v; decl any_arguments b; decl any_fn_call g; decl struct s y; start: { g(x, (b)) } && { v[y] } ==> v.c; v.d: { f((int *) v) } ==> v.c; }
order_of_holes : read_machine spelling (sm ∷ m ∷ brace ∷ decl ∷ any_expr ∷ x ∷ semicolon ∷ state ∷ decl ∷ c_int ∷ star ∷ v ∷ semicolon ∷ decl ∷ any_arguments ∷ b ∷ semicolon ∷ decl ∷ any_fn_call ∷ g ∷ semicolon ∷ decl ∷ c_struct ∷ s ∷ y ∷ semicolon ∷ start ∷ colon ∷ brace ∷ g ∷ paren ∷ x ∷ comma ∷ paren ∷ b ∷ end_paren ∷ end_paren ∷ end_brace ∷ both ∷ brace ∷ v ∷ bracket ∷ y ∷ end_bracket ∷ end_brace ∷ to ∷ v ∷ dot ∷ c ∷ semicolon ∷ v ∷ dot ∷ d ∷ colon ∷ brace ∷ f ∷ paren ∷ paren ∷ c_int ∷ star ∷ end_paren ∷ v ∷ end_paren ∷ end_brace ∷ to ∷ v ∷ dot ∷ c ∷ semicolon ∷ end_brace ∷ []) ≡ Accepted (record {
  name = 1;
  variables = 1;
  holes = record { name = 19; of = Named (Pointer (Basic (words.Int ∷ []))) } ∷ record { name = 16; of = AnyExpr } ∷ record { name = 9; of = AnyArguments } ∷ record { name = 13; of = AnyFnCall } ∷ record { name = 39; of = Named (Tag which_word.Struct 63) } ∷ [];
  globals = [];
  states = (10 ∷ 11 ∷ []) ∷ [];
  rules =
      (record { number = 1; position = 28; source = FromGlobal 0; alternatives = (Base (Operation (Call (Primary (Hole 3)) (more (Primary (Hole 1)) (more (Primary (Paren (Primary (Hole 2)))) no_more)))) ∷ Base (Operation (Index (Primary (Hole 0)) (Primary (Hole 4)))) ∷ []) ∷ []; dest = Always (ToObject 0 0); action = None })
      ∷ (record { number = 2; position = 54; source = FromObject 0 1; alternatives = (Base (Operation (Call (ident f) (more (Operation (Cast int_pointer (Primary (Hole 0)))) no_more))) ∷ []) ∷ []; dest = Always (ToObject 0 0); action = None })
      ∷ [];
})
unfolding read_row read_identifiers read read_binary read_chain read_postfix_operators read_more_arguments read_path read_items read_suffixes read_params run_of after_run is_type type_words other_types storages inlines occurrences as_often is_among
order_of_holes = refl

--     sm m { state decl any_pointer v; start: { f(v); } && ${ !mc_is_const(v) } && ${ mc_name_is(v, "a") } || ${ mc_in_function(L"b") } && { v } && ${ 0 } && ${ !1 } ==> v.a; }
callouts : read_machine spelling (sm ∷ m ∷ brace ∷ state ∷ decl ∷ any_pointer ∷ v ∷ semicolon ∷ start ∷ colon ∷ brace ∷ f ∷ paren ∷ v ∷ end_paren ∷ semicolon ∷ end_brace ∷ both ∷ dollar ∷ brace ∷ negation ∷ mc_is_const ∷ paren ∷ v ∷ end_paren ∷ end_brace ∷ both ∷ dollar ∷ brace ∷ mc_name_is ∷ paren ∷ v ∷ comma ∷ text_2 ∷ end_paren ∷ end_brace ∷ either ∷ dollar ∷ brace ∷ mc_in_function ∷ paren ∷ text_13 ∷ end_paren ∷ end_brace ∷ both ∷ brace ∷ v ∷ end_brace ∷ both ∷ dollar ∷ brace ∷ digits_0 ∷ end_brace ∷ both ∷ dollar ∷ brace ∷ negation ∷ digits_1 ∷ end_brace ∷ to ∷ v ∷ dot ∷ a ∷ semicolon ∷ end_brace ∷ []) ≡ Accepted (record {
  name = 1;
  variables = 1;
  holes = record { name = 19; of = AnyPointer } ∷ [];
  globals = [];
  states = (8 ∷ []) ∷ [];
  rules =
      (record { number = 1; position = 10; source = FromGlobal 0; alternatives = (Base (Operation (Call (ident f) (more (Primary (Hole 0)) no_more))) ∷ Holds (record { negated = true; row = IsConst; hole = 0; text = 0 }) ∷ Holds (record { negated = false; row = NameIs; hole = 0; text = 8 }) ∷ []) ∷ (Holds (record { negated = false; row = InFunction; hole = 0; text = 9 }) ∷ Base (Primary (Hole 0)) ∷ Holds (record { negated = false; row = NeverHolds; hole = 0; text = 0 }) ∷ Holds (record { negated = true; row = AlwaysHolds; hole = 0; text = 0 }) ∷ []) ∷ []; dest = Always (ToObject 0 0); action = None })
      ∷ [];
})
unfolding read_row read_identifiers read read_binary read_chain read_postfix_operators read_more_arguments read_path read_items read_suffixes read_params run_of after_run is_type type_words other_types storages inlines occurrences as_often is_among
callouts = refl

-- at the end of a path the variable of the source needs no pattern:
--     sm m { state decl any_pointer v, w; decl any_expr x; v.a: { f(v) } && ${ mc_is_local(v) } || $end_of_path$ ==> v.stop; }
excused_at_end : read_machine spelling (begun ++ v ∷ dot ∷ a ∷ colon ∷ brace ∷ f ∷ paren ∷ v ∷ end_paren ∷ end_brace ∷ both ∷ dollar ∷ brace ∷ mc_is_local ∷ paren ∷ v ∷ end_paren ∷ end_brace ∷ either ∷ dollar ∷ end_of_path ∷ dollar ∷ to ∷ v ∷ dot ∷ stop ∷ semicolon ∷ end_brace ∷ []) ≡ Accepted (record {
  name = 1;
  variables = 2;
  holes = record { name = 19; of = AnyPointer } ∷ record { name = 20; of = AnyPointer } ∷ record { name = 16; of = AnyExpr } ∷ [];
  globals = [];
  states = (8 ∷ []) ∷ [] ∷ [];
  rules =
      (record { number = 1; position = 18; source = FromObject 0 0; alternatives = (Base (Operation (Call (ident f) (more (Primary (Hole 0)) no_more))) ∷ Holds (record { negated = false; row = IsLocal; hole = 0; text = 0 }) ∷ []) ∷ (EndOfPath ∷ []) ∷ []; dest = Always (ToUnknown 0); action = None })
      ∷ [];
})
unfolding read_row read_identifiers read read_binary read_chain read_postfix_operators read_more_arguments read_path read_items read_suffixes read_params run_of after_run is_type type_words other_types storages inlines occurrences as_often is_among
excused_at_end = refl

-- an alternative needs no pattern, and the words of the language are names like others:
--     sm m { start: ${ 1 } ==> true; true: $end_of_path$ && $end_of_path$ ==> state; state: { f() } ==> stop; }
without_pattern : read_machine spelling (sm ∷ m ∷ brace ∷ start ∷ colon ∷ dollar ∷ brace ∷ digits_1 ∷ end_brace ∷ to ∷ true_word ∷ semicolon ∷ true_word ∷ colon ∷ dollar ∷ end_of_path ∷ dollar ∷ both ∷ dollar ∷ end_of_path ∷ dollar ∷ to ∷ state ∷ semicolon ∷ state ∷ colon ∷ brace ∷ f ∷ paren ∷ end_paren ∷ end_brace ∷ to ∷ stop ∷ semicolon ∷ end_brace ∷ []) ≡ Accepted (record {
  name = 1;
  variables = 0;
  holes = [];
  globals = 22 ∷ 5 ∷ [];
  states = [];
  rules =
      (record { number = 1; position = 5; source = FromGlobal 0; alternatives = (Holds (record { negated = false; row = AlwaysHolds; hole = 0; text = 0 }) ∷ []) ∷ []; dest = Always (ToGlobal 2); action = None })
      ∷ (record { number = 2; position = 14; source = FromGlobal 2; alternatives = (EndOfPath ∷ EndOfPath ∷ []) ∷ []; dest = Always (ToGlobal 3); action = None })
      ∷ (record { number = 3; position = 26; source = FromGlobal 3; alternatives = (Base (Operation (Call (ident f) no_more)) ∷ []) ∷ []; dest = Always (ToGlobal 1); action = None })
      ∷ [];
})
unfolding read_row read_identifiers read read_binary read_chain read_postfix_operators read_more_arguments read_path read_items read_suffixes read_params run_of after_run is_type type_words other_types storages inlines occurrences as_often is_among
without_pattern = refl

-- literals are joined before `%s` is looked for, and escapes are read:
--     sm m { state decl any_pointer v, w; decl any_expr x; start: { f(v) } ==> v.a, { err("100%% of %" "s, \"%s\" \\", mc_identifier(v), mc_identifier(v)) }; }
message : read_machine spelling (begun ++ start ∷ colon ∷ brace ∷ f ∷ paren ∷ v ∷ end_paren ∷ end_brace ∷ to ∷ v ∷ dot ∷ a ∷ comma ∷ brace ∷ err ∷ paren ∷ text_14 ∷ text_15 ∷ comma ∷ mc_identifier ∷ paren ∷ v ∷ end_paren ∷ comma ∷ mc_identifier ∷ paren ∷ v ∷ end_paren ∷ end_paren ∷ end_brace ∷ semicolon ∷ end_brace ∷ []) ≡ Accepted (record {
  name = 1;
  variables = 2;
  holes = record { name = 19; of = AnyPointer } ∷ record { name = 20; of = AnyPointer } ∷ record { name = 16; of = AnyExpr } ∷ [];
  globals = [];
  states = (8 ∷ []) ∷ [] ∷ [];
  rules =
      (record { number = 1; position = 16; source = FromGlobal 0; alternatives = (Base (Operation (Call (ident f) (more (Primary (Hole 0)) no_more))) ∷ []) ∷ []; dest = Always (ToObject 0 0); action = Some (Bytes (codes "100% of ") ∷ HoleText 0 ∷ Bytes (codes ", \"") ∷ HoleText 0 ∷ Bytes (codes "\" \\") ∷ []) })
      ∷ [];
})
unfolding read_row read_identifiers read read_binary read_chain read_postfix_operators read_more_arguments read_path read_items read_suffixes read_params run_of after_run is_type type_words other_types storages inlines occurrences as_often is_among
message = refl
