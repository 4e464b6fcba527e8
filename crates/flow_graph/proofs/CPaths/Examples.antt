-- Functions with all of their longest traces. The names are 0 a, 1 b, 2 c, 3 g, 4 h, 5 n, 6 p, 7 x, 8 y, 9 z.
use Rattle.std.proofs.Common.{◌≡◌, ℕ, Bool, true, false, List, [], ◌∷◌, ◌++◌, inl, inr, refl}
use Rattle.c_tree.specs.declared.operator.BinaryOp.TheVariants as binary
use Rattle.c_tree.specs.declared.operator.UnaryOp.TheVariants as unary
use Rattle.c_tree.specs.Node.{Node, absent, present, no_more}
use Rattle.flow_graph.specs.CPaths.EventPlaces.{event_place}
use Rattle.c_tree.specs.PathSubjects.Subjects.{Tree, DerefOf}
use Rattle.flow_graph.specs.CPaths.Events.{Item, Variable, Evaluated, evaluated, declared, branched, exited, called}
use Rattle.flow_graph.specs.CPaths.Occurrences.{InFlow}
use Rattle.flow_graph.specs.CPaths.TreeFlow.{flow_of}
use Rattle.flow_graph.specs.CPaths.Traces.{Definition}
use Rattle.flow_graph.specs.CPaths.Listing.{longest_traces, finishes_within}
use Rattle.flow_graph.proofs.CPaths.ExampleTrees.{at, ident, number, call, unary_at, binary_at, block, stmt, nothing, if_then, if_else, switch, case_of, default, label, while, do_while, for_loop, for_declared, goto, break, continue, return, declarator, init, pointer_init, arrow, braces, declaration, outside, inside, function, end}

-- the calls `g()` and `h()`, and what they give
abbrev pub g : ℕ → Node
g n = call n (ident 3 n) no_more

abbrev pub h : ℕ → Node
h n = call n (ident 4 n) no_more

abbrev pub runs_g : ℕ → List Item
runs_g n = evaluated (ident 3 n) ∷ evaluated (g n) ∷ []

abbrev pub runs_h : ℕ → List Item
runs_h n = evaluated (ident 4 n) ∷ evaluated (h n) ∷ []

-- the condition n at this place comes out so
abbrev pub goes : ℕ → ℕ → Bool → List Item
goes name n truth = evaluated (ident name n) ∷ branched (ident name n) truth ∷ []

abbrev pub ends : List Item
ends = end ∷ []

abbrev variable : ℕ → ℕ → Variable
variable name n = record { place = at n; name = name }

-- { if (a && !b) g(); }
abbrev pub both : Definition
both = function (if_then 2 (binary_at 4 binary.LogAnd (ident 0 4) (unary_at 6 unary.Not (ident 1 7))) (stmt (g 9)) ∷ [])

pub both_traces : longest_traces outside both 20 ≡
    (goes 0 4 true ++ goes 1 7 false ++ runs_g 9 ++ ends)
    ∷ (goes 0 4 false ++ ends)
    ∷ (goes 0 4 true ++ goes 1 7 true ++ ends)
    ∷ []
both_traces = refl

pub both_finishes : finishes_within outside both 20 ≡ true
both_finishes = refl

-- { if (a) g(); else h(); }
abbrev otherwise : Definition
otherwise = function (if_else 2 (ident 0 4) (stmt (g 6)) (stmt (h 11)) ∷ [])

otherwise_traces : longest_traces outside otherwise 20 ≡
    (goes 0 4 true ++ runs_g 6 ++ ends)
    ∷ (goes 0 4 false ++ runs_h 11 ++ ends)
    ∷ []
otherwise_traces = refl

otherwise_finishes : finishes_within outside otherwise 20 ≡ true
otherwise_finishes = refl

-- { switch (n) { case 1: g(); default: h(); } }
abbrev pub chosen : Definition
chosen = function (switch 2 (ident 5 4) (block 6 (case_of 7 (number 1 8) (stmt (g 10)) ∷ default 14 (stmt (h 16)) ∷ [])) ∷ [])

pub chosen_traces : longest_traces outside chosen 20 ≡
    (evaluated (ident 5 4) ∷ runs_g 10 ++ runs_h 16 ++ ends)
    ∷ (evaluated (ident 5 4) ∷ runs_h 16 ++ ends)
    ∷ []
chosen_traces = refl

pub chosen_finishes : finishes_within outside chosen 20 ≡ true
chosen_finishes = refl

-- { switch (n) { case 1: g(); break; case 2: h(); } }
abbrev passed_by : Definition
passed_by = function (switch 2 (ident 5 4) (block 6 (case_of 7 (number 1 8) (stmt (g 10)) ∷ break 14 ∷ case_of 16 (number 2 17) (stmt (h 19)) ∷ [])) ∷ [])

passed_by_traces : longest_traces outside passed_by 20 ≡
    (evaluated (ident 5 4) ∷ runs_g 10 ++ ends)
    ∷ (evaluated (ident 5 4) ∷ runs_h 19 ++ ends)
    ∷ (evaluated (ident 5 4) ∷ ends)
    ∷ []
passed_by_traces = refl

passed_by_finishes : finishes_within outside passed_by 20 ≡ true
passed_by_finishes = refl

-- { while (n) g(); }, up to the second turn
abbrev pub repeated : Definition
repeated = function (while 2 (ident 5 4) (stmt (g 6)) ∷ [])

repeated_traces : longest_traces outside repeated 6 ≡
    (goes 5 4 true ++ runs_g 6 ++ goes 5 4 true)
    ∷ (goes 5 4 true ++ runs_g 6 ++ goes 5 4 false)
    ∷ (goes 5 4 false ++ ends)
    ∷ []
repeated_traces = refl

-- { do g(); while (n); }, up to the second turn
abbrev at_least_once : Definition
at_least_once = function (do_while 2 (stmt (g 3)) (ident 5 9) ∷ [])

at_least_once_traces : longest_traces outside at_least_once 7 ≡
    (runs_g 3 ++ goes 5 9 true ++ runs_g 3)
    ∷ (runs_g 3 ++ goes 5 9 false ++ ends)
    ∷ []
at_least_once_traces = refl

-- { for (;;) ; }: no exit is reached
abbrev pub spinning : Definition
spinning = function (for_loop 2 absent absent absent (nothing 7) ∷ [])

spinning_traces : longest_traces outside spinning 30 ≡
    ([])
    ∷ []
spinning_traces = refl

-- { for (a; n; b) { if (c) continue; g(); } }, up to the end of a turn
abbrev counted : Definition
counted = function (for_loop 2 (present (ident 0 4)) (present (ident 5 6)) (present (ident 1 8)) (block 10 (if_then 11 (ident 2 13) (continue 15) ∷ stmt (g 17) ∷ [])) ∷ [])

counted_traces : longest_traces outside counted 7 ≡
    (evaluated (ident 0 4) ∷ goes 5 6 true ++ goes 2 13 true ++ evaluated (ident 1 8) ∷ [])
    ∷ (evaluated (ident 0 4) ∷ goes 5 6 true ++ goes 2 13 false ++ runs_g 17)
    ∷ (evaluated (ident 0 4) ∷ goes 5 6 false ++ ends)
    ∷ []
counted_traces = refl

-- { goto x; { g(); x: h(); } }
abbrev into_a_block : Definition
into_a_block = function (goto 2 7 ∷ block 5 (stmt (g 6) ∷ label 10 7 (stmt (h 12)) ∷ []) ∷ [])

into_a_block_traces : longest_traces outside into_a_block 20 ≡
    (runs_h 12 ++ ends)
    ∷ []
into_a_block_traces = refl

into_a_block_finishes : finishes_within outside into_a_block 20 ≡ true
into_a_block_finishes = refl

-- { goto x; while (n) { x: h(); } }, up to the first turn
abbrev into_a_loop : Definition
into_a_loop = function (goto 2 7 ∷ while 5 (ident 5 7) (block 9 (label 10 7 (stmt (h 12)) ∷ [])) ∷ [])

into_a_loop_traces : longest_traces outside into_a_loop 6 ≡
    (runs_h 12 ++ goes 5 7 true)
    ∷ (runs_h 12 ++ goes 5 7 false ++ ends)
    ∷ []
into_a_loop_traces = refl

-- { x: g(); goto x; }
abbrev and_back : Definition
and_back = function (label 2 7 (stmt (g 4)) ∷ goto 8 7 ∷ [])

and_back_traces : longest_traces outside and_back 6 ≡
    (runs_g 4 ++ runs_g 4)
    ∷ []
and_back_traces = refl

-- { switch (n) { case 0: do { g(); case 1: h(); } while (a); } }, up to the second call of g
abbrev duffs_device : Definition
duffs_device = function (switch 2 (ident 5 4) (block 6 (case_of 7 (number 0 8) (do_while 10 (block 11 (stmt (g 12) ∷ case_of 16 (number 1 17) (stmt (h 19)) ∷ [])) (ident 0 26)) ∷ [])) ∷ [])

duffs_device_traces : longest_traces outside duffs_device 7 ≡
    (evaluated (ident 5 4) ∷ runs_g 12 ++ runs_h 19)
    ∷ (evaluated (ident 5 4) ∷ runs_h 19 ++ goes 0 26 true ++ runs_g 12)
    ∷ (evaluated (ident 5 4) ∷ runs_h 19 ++ goes 0 26 false ++ ends)
    ∷ (evaluated (ident 5 4) ∷ ends)
    ∷ []
duffs_device_traces = refl

-- { while (n) { switch (a) { case 1: break; case 2: continue; } g(); } }, up to the beginning of a second turn
abbrev switch_in_a_loop : Definition
switch_in_a_loop = function (while 2 (ident 5 4) (block 6 (switch 7 (ident 0 9) (block 11 (case_of 12 (number 1 13) (break 15) ∷ case_of 17 (number 2 18) (continue 20) ∷ [])) ∷ stmt (g 23) ∷ [])) ∷ [])

switch_in_a_loop_traces : longest_traces outside switch_in_a_loop 8 ≡
    (goes 5 4 true ++ evaluated (ident 0 9) ∷ runs_g 23)
    ∷ (goes 5 4 true ++ evaluated (ident 0 9) ∷ goes 5 4 true)
    ∷ (goes 5 4 true ++ evaluated (ident 0 9) ∷ goes 5 4 false)
    ∷ (goes 5 4 true ++ evaluated (ident 0 9) ∷ runs_g 23 ++ goes 5 4 true)
    ∷ (goes 5 4 true ++ evaluated (ident 0 9) ∷ runs_g 23 ++ goes 5 4 false)
    ∷ (goes 5 4 false ++ ends)
    ∷ []
switch_in_a_loop_traces = refl

-- { int x = a, y; static int z = b; y; }
abbrev declarations : Definition
declarations = function (declaration 2 (init 7 3 (ident 0 5) ∷ declarator 8 7 ∷ []) ∷ declaration 9 (init 9 11 (ident 1 13) ∷ []) ∷ stmt (ident 8 15) ∷ [])

declarations_traces : longest_traces outside declarations 20 ≡
    (declared (variable 7 3) ∷ evaluated (ident 0 5) ∷ evaluated (init 7 3 (ident 0 5)) ∷ declared (variable 8 7) ∷ evaluated (ident 8 15) ∷ ends)
    ∷ []
declarations_traces = refl

declarations_finishes : finishes_within outside declarations 20 ≡ true
declarations_finishes = refl

-- { int x[] = { a, { b } }; }
abbrev braced : Definition
braced = function (declaration 2 (init 7 3 (braces 7 (ident 0 8 ∷ braces 10 (ident 1 11 ∷ []) ∷ [])) ∷ []) ∷ [])

braced_traces : longest_traces outside braced 20 ≡
    (declared (variable 7 3) ∷ evaluated (ident 0 8) ∷ evaluated (ident 1 11) ∷ evaluated (init 7 3 (braces 7 (ident 0 8 ∷ braces 10 (ident 1 11 ∷ []) ∷ []))) ∷ ends)
    ∷ []
braced_traces = refl

braced_finishes : finishes_within outside braced 20 ≡ true
braced_finishes = refl

-- { int *x = a; }: the initializer stands at the declared name
abbrev pointed : Definition
pointed = function (declaration 2 (pointer_init 7 3 (ident 0 6) ∷ []) ∷ [])

pointed_traces : longest_traces outside pointed 20 ≡
    (declared (variable 7 4) ∷ evaluated (ident 0 6) ∷ evaluated (pointer_init 7 3 (ident 0 6)) ∷ ends)
    ∷ []
pointed_traces = refl

pointed_place : event_place (Evaluated (Tree (pointer_init 7 3 (ident 0 6)))) ≡ at 4
pointed_place = refl

-- p->x: the `*p` stands where the whole does
arrow_place : event_place (Evaluated (DerefOf (ident 6 1))) ≡ event_place (Evaluated (Tree (arrow 1 (ident 6 1) 7)))
arrow_place = refl

-- { if (a) return b; g(); return; h(); }
abbrev returned : Definition
returned = function (if_then 2 (ident 0 4) (return 6 (present (ident 1 7))) ∷ stmt (g 9) ∷ return 13 absent ∷ stmt (h 15) ∷ [])

returned_traces : longest_traces outside returned 20 ≡
    (goes 0 4 true ++ evaluated (ident 1 7) ∷ exited (at 0) (at 6) ∷ [])
    ∷ (goes 0 4 false ++ runs_g 9 ++ exited (at 0) (at 13) ∷ [])
    ∷ []
returned_traces = refl

returned_finishes : finishes_within outside returned 20 ≡ true
returned_finishes = refl

-- { g(); return h(); }, where both have bodies
abbrev marked : Definition
marked = function (stmt (g 2) ∷ return 6 (present (h 7)) ∷ [])

marked_traces : longest_traces inside marked 20 ≡
    (runs_g 2 ++ called (g 2) ∷ runs_h 7 ++ called (h 7) ∷ exited (at 0) (at 6) ∷ [])
    ∷ []
marked_traces = refl

marked_finishes : finishes_within inside marked 20 ≡ true
marked_finishes = refl

-- { for (int x = a; x; ) ; }, up to the second turn
abbrev declared_in_a_head : Definition
declared_in_a_head = function (for_declared 2 (declaration 4 (init 7 5 (ident 0 7) ∷ [])) (present (ident 7 9)) absent (nothing 12) ∷ [])

declared_in_a_head_traces : longest_traces outside declared_in_a_head 6 ≡
    (declared (variable 7 5) ∷ evaluated (ident 0 7) ∷ evaluated (init 7 5 (ident 0 7)) ∷ goes 7 9 true ++ goes 7 9 true)
    ∷ (declared (variable 7 5) ∷ evaluated (ident 0 7) ∷ evaluated (init 7 5 (ident 0 7)) ∷ goes 7 9 true ++ goes 7 9 false)
    ∷ (declared (variable 7 5) ∷ evaluated (ident 0 7) ∷ evaluated (init 7 5 (ident 0 7)) ∷ goes 7 9 false ++ ends)
    ∷ []
declared_in_a_head_traces = refl

-- { switch (n) { case 1: switch (a) { case 2: g(); default: ; } h(); } }: the inner labels are those of the inner switch
abbrev nested_switches : Definition
nested_switches = function (switch 2 (ident 5 4) (block 6 (case_of 7 (number 1 8) (switch 10 (ident 0 12) (block 14 (case_of 15 (number 2 16) (stmt (g 18)) ∷ default 22 (nothing 24) ∷ []))) ∷ stmt (h 26) ∷ [])) ∷ [])

nested_switches_traces : longest_traces outside nested_switches 20 ≡
    (evaluated (ident 5 4) ∷ evaluated (ident 0 12) ∷ runs_g 18 ++ runs_h 26 ++ ends)
    ∷ (evaluated (ident 5 4) ∷ evaluated (ident 0 12) ∷ runs_h 26 ++ ends)
    ∷ (evaluated (ident 5 4) ∷ ends)
    ∷ []
nested_switches_traces = refl

nested_switches_finishes : finishes_within outside nested_switches 20 ≡ true
nested_switches_finishes = refl

-- { switch (n) if (a) { g(); case 1: h(); } else default: b; }: a label may stand in either branch
abbrev case_in_a_branch : Definition
case_in_a_branch = function (switch 2 (ident 5 4) (if_else 6 (ident 0 8) (block 10 (stmt (g 11) ∷ case_of 15 (number 1 16) (stmt (h 18)) ∷ [])) (default 23 (stmt (ident 1 25)))) ∷ [])

case_in_a_branch_traces : longest_traces outside case_in_a_branch 20 ≡
    (evaluated (ident 5 4) ∷ runs_h 18 ++ ends)
    ∷ (evaluated (ident 5 4) ∷ evaluated (ident 1 25) ∷ ends)
    ∷ []
case_in_a_branch_traces = refl

case_in_a_branch_finishes : finishes_within outside case_in_a_branch 20 ≡ true
case_in_a_branch_finishes = refl

-- { switch (n) g(); h(); }: without labels it only goes on behind
abbrev no_cases : Definition
no_cases = function (switch 2 (ident 5 4) (stmt (g 6)) ∷ stmt (h 10) ∷ [])

no_cases_traces : longest_traces outside no_cases 20 ≡ (evaluated (ident 5 4) ∷ runs_h 10 ++ ends) ∷ []
no_cases_traces = refl

no_cases_finishes : finishes_within outside no_cases 20 ≡ true
no_cases_finishes = refl

-- { goto x; if (a) { x: g(); } else h(); }: behind the branch the whole `if` is over
abbrev into_a_branch : Definition
into_a_branch = function (goto 2 7 ∷ if_else 5 (ident 0 7) (block 9 (label 10 7 (stmt (g 12)) ∷ [])) (stmt (h 18)) ∷ [])

into_a_branch_traces : longest_traces outside into_a_branch 20 ≡ (runs_g 12 ++ ends) ∷ []
into_a_branch_traces = refl

into_a_branch_finishes : finishes_within outside into_a_branch 20 ≡ true
into_a_branch_finishes = refl

-- { goto x; { int y; x: y; } }: a jump passes the declaration by
abbrev past_a_declaration : Definition
past_a_declaration = function (goto 2 7 ∷ block 5 (declaration 6 (declarator 8 7 ∷ []) ∷ label 9 7 (stmt (ident 8 11)) ∷ []) ∷ [])

past_a_declaration_traces : longest_traces outside past_a_declaration 20 ≡ (evaluated (ident 8 11) ∷ ends) ∷ []
past_a_declaration_traces = refl

past_a_declaration_finishes : finishes_within outside past_a_declaration 20 ≡ true
past_a_declaration_finishes = refl

-- { do { if (c) continue; if (b) break; g(); } while (n); }: `continue` leads to the condition
abbrev left_and_continued : Definition
left_and_continued = function (do_while 2 (block 3 (if_then 4 (ident 2 6) (continue 8) ∷ if_then 10 (ident 1 12) (break 14) ∷ stmt (g 16) ∷ [])) (ident 5 23) ∷ [])

left_and_continued_traces : longest_traces outside left_and_continued 8 ≡
    (goes 2 6 true ++ goes 5 23 true)
    ∷ (goes 2 6 true ++ goes 5 23 false ++ ends)
    ∷ (goes 2 6 false ++ goes 1 12 true ++ ends)
    ∷ (goes 2 6 false ++ goes 1 12 false ++ runs_g 16)
    ∷ []
left_and_continued_traces = refl

-- { for (; n; b) switch (a) default: continue; }: a `continue` leaves the switch round it
abbrev continued_in_a_switch : Definition
continued_in_a_switch = function (for_loop 2 absent (present (ident 5 5)) (present (ident 1 7)) (switch 9 (ident 0 11) (default 13 (continue 15))) ∷ [])

continued_in_a_switch_traces : longest_traces outside continued_in_a_switch 6 ≡
    (goes 5 5 true ++ evaluated (ident 0 11) ∷ evaluated (ident 1 7) ∷ [])
    ∷ (goes 5 5 false ++ ends)
    ∷ []
continued_in_a_switch_traces = refl

-- { return; h(); }: the call stands in the text, although no trace comes there
abbrev unreached : Definition
unreached = function (return 2 absent ∷ stmt (h 4) ∷ [])

unreached_traces : longest_traces inside unreached 20 ≡ (exited (at 0) (at 2) ∷ []) ∷ []
unreached_traces = refl

stands_in_the_text : InFlow (called (h 4)) (flow_of inside (at 0) unreached.body)
stands_in_the_text = inr (inl (inl (inr (inr (inl refl)))))

-- { sizeof g(); }: there is no call in it
abbrev unevaluated : Definition
unevaluated = function (stmt (unary_at 2 unary.Sizeof (g 3)) ∷ [])

no_call : InFlow (called (g 3)) (flow_of inside (at 0) unevaluated.body) → ⊥
no_call (inl (inl (inl e))) = cc
no_call (inl (inl (inr x))) = absurd x
no_call (inl (inr x)) = absurd x
no_call (inr x) = absurd x

-- { a; } asks no condition, and { if (a) b; } asks that of a
abbrev unasked : Definition
unasked = function (stmt (ident 0 2) ∷ [])

no_branch : InFlow (branched (ident 0 2) true) (flow_of inside (at 0) unasked.body) → ⊥
no_branch (inl (inl (inl e))) = cc
no_branch (inl (inl (inr x))) = absurd x
no_branch (inl (inr x)) = absurd x
no_branch (inr x) = absurd x

abbrev asked : Definition
asked = function (if_then 2 (ident 0 4) (stmt (ident 1 6)) ∷ [])

branch : InFlow (branched (ident 0 4) true) (flow_of inside (at 0) asked.body)
branch = inl (inl (inl (true, refl)))
