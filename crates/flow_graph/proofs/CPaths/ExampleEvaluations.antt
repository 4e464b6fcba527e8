-- Expressions with all of their evaluations. The names are 0 a, 1 b, 2 c, 3 g, 4 h, 6 p, 7 x.
use Rattle.std.proofs.Common.{◌≡◌, true, false, [], ◌∷◌, None, Some, refl}
use Rattle.c_tree.specs.declared.operator.BinaryOp.TheVariants as binary
use Rattle.c_tree.specs.declared.operator.UnaryOp.TheVariants as unary
use Rattle.c_tree.specs.Node.{Node, no_more}
use Rattle.flow_graph.specs.CPaths.Events.{evaluated, dereferenced, branched, called}
use Rattle.flow_graph.specs.CPaths.TreeForms.{form_of}
use Rattle.flow_graph.specs.CPaths.Listing.{words_of}
use Rattle.flow_graph.proofs.CPaths.ExampleTrees.{ident, number, paren, call, unary_at, binary_at, conditional, assigned, arrow, cast_at, sizeof_type, va_arg, offset_of, at_index, at_member, braces, designated, compound, nodes, outside, inside}

abbrev a : Node
a = ident 0 1

abbrev b : Node
b = ident 1 5

abbrev c : Node
c = ident 2 7

-- p->x: the tree `*p` is read on the way
through_pointer : words_of (form_of outside (arrow 1 (ident 6 1) 7)) None ≡
    (evaluated (ident 6 1) ∷ dereferenced (ident 6 1) ∷ evaluated (arrow 1 (ident 6 1) 7) ∷ []) ∷ []
through_pointer = refl

-- a = *b: the left operand comes first
assignment : words_of (form_of outside (assigned 1 a (unary_at 4 unary.Deref b))) None ≡
    (evaluated a ∷ evaluated b ∷ evaluated (unary_at 4 unary.Deref b) ∷ evaluated (assigned 1 a (unary_at 4 unary.Deref b)) ∷ []) ∷ []
assignment = refl

-- sizeof(*p) evaluates nothing below it
size : words_of (form_of outside (unary_at 1 unary.Sizeof (paren 2 (unary_at 3 unary.Deref (ident 6 4))))) None ≡
    (evaluated (unary_at 1 unary.Sizeof (paren 2 (unary_at 3 unary.Deref (ident 6 4)))) ∷ []) ∷ []
size = refl

abbrev inner_call : Node
inner_call = call 3 (ident 4 3) no_more

abbrev outer_call : Node
outer_call = call 1 (ident 3 1) (nodes (inner_call ∷ paren 7 b ∷ []))

-- g(h(), (b)): the callee, the arguments, the call, and its mark if the callee has a body
calls : words_of (form_of inside outer_call) None ≡
    (evaluated (ident 3 1) ∷ evaluated (ident 4 3) ∷ evaluated inner_call ∷ called inner_call ∷ evaluated b ∷ evaluated outer_call ∷ called outer_call ∷ []) ∷ []
calls = refl

calls_outside : words_of (form_of outside outer_call) None ≡
    (evaluated (ident 3 1) ∷ evaluated (ident 4 3) ∷ evaluated inner_call ∷ evaluated b ∷ evaluated outer_call ∷ []) ∷ []
calls_outside = refl

abbrev conjunction : Node
conjunction = binary_at 1 binary.LogAnd a b

-- a && b, for its value
conjunction_value : words_of (form_of outside conjunction) None ≡
    (evaluated a ∷ branched a false ∷ evaluated conjunction ∷ [])
    ∷ (evaluated a ∷ branched a true ∷ evaluated b ∷ branched b false ∷ evaluated conjunction ∷ [])
    ∷ (evaluated a ∷ branched a true ∷ evaluated b ∷ branched b true ∷ evaluated conjunction ∷ [])
    ∷ []
conjunction_value = refl

-- as a condition it has no event of its own
conjunction_holds : words_of (form_of outside conjunction) (Some true) ≡
    (evaluated a ∷ branched a true ∷ evaluated b ∷ branched b true ∷ []) ∷ []
conjunction_holds = refl

-- !(a || b), as a condition that fails
disjunction_turned : words_of (form_of outside (unary_at 1 unary.Not (paren 2 (binary_at 1 binary.LogOr a b)))) (Some false) ≡
    (evaluated a ∷ branched a true ∷ [])
    ∷ (evaluated a ∷ branched a false ∷ evaluated b ∷ branched b true ∷ [])
    ∷ []
disjunction_turned = refl

-- !a, for its value
negation_value : words_of (form_of outside (unary_at 0 unary.Not a)) None ≡ (evaluated a ∷ evaluated (unary_at 0 unary.Not a) ∷ []) ∷ []
negation_value = refl

-- a == (0) holds where a fails
is_zero_holds : words_of (form_of outside (binary_at 1 binary.Equal a (paren 3 (number 0 4)))) (Some true) ≡
    (evaluated a ∷ branched a false ∷ []) ∷ []
is_zero_holds = refl

-- (a) != (T)0 holds where a does
is_no_zero_holds : words_of (form_of outside (binary_at 0 binary.NotEqual (paren 0 a) (cast_at 4 (number 0 7)))) (Some true) ≡
    (evaluated a ∷ branched a true ∷ []) ∷ []
is_no_zero_holds = refl

-- a == 0, for its value
is_zero_value : words_of (form_of outside (binary_at 1 binary.Equal a (number 0 3))) None ≡
    (evaluated a ∷ evaluated (number 0 3) ∷ evaluated (binary_at 1 binary.Equal a (number 0 3)) ∷ []) ∷ []
is_zero_value = refl

-- a == 1, and 0 == b, are conditions like any other
is_one_holds : words_of (form_of outside (binary_at 1 binary.Equal a (number 1 3))) (Some true) ≡
    (evaluated a ∷ evaluated (number 1 3) ∷ evaluated (binary_at 1 binary.Equal a (number 1 3)) ∷ branched (binary_at 1 binary.Equal a (number 1 3)) true ∷ []) ∷ []
is_one_holds = refl

zero_first_holds : words_of (form_of outside (binary_at 3 binary.Equal (number 0 3) b)) (Some true) ≡
    (evaluated (number 0 3) ∷ evaluated b ∷ evaluated (binary_at 3 binary.Equal (number 0 3) b) ∷ branched (binary_at 3 binary.Equal (number 0 3) b) true ∷ []) ∷ []
zero_first_holds = refl

-- a, b
comma_holds : words_of (form_of outside (binary_at 1 binary.Comma a b)) (Some true) ≡ (evaluated a ∷ evaluated b ∷ branched b true ∷ []) ∷ []
comma_holds = refl

comma_value : words_of (form_of outside (binary_at 1 binary.Comma a b)) None ≡
    (evaluated a ∷ evaluated b ∷ evaluated (binary_at 1 binary.Comma a b) ∷ []) ∷ []
comma_value = refl

-- a ? b : c
choice_value : words_of (form_of outside (conditional 1 a b c)) None ≡
    (evaluated a ∷ branched a true ∷ evaluated b ∷ evaluated (conditional 1 a b c) ∷ [])
    ∷ (evaluated a ∷ branched a false ∷ evaluated c ∷ evaluated (conditional 1 a b c) ∷ [])
    ∷ []
choice_value = refl

choice_fails : words_of (form_of outside (conditional 1 a b c)) (Some false) ≡
    (evaluated a ∷ branched a true ∷ evaluated b ∷ branched b false ∷ [])
    ∷ (evaluated a ∷ branched a false ∷ evaluated c ∷ branched c false ∷ [])
    ∷ []
choice_fails = refl

-- a || b, for its value
abbrev disjunction : Node
disjunction = binary_at 1 binary.LogOr a b

disjunction_value : words_of (form_of outside disjunction) None ≡
    (evaluated a ∷ branched a true ∷ evaluated disjunction ∷ [])
    ∷ (evaluated a ∷ branched a false ∷ evaluated b ∷ branched b false ∷ evaluated disjunction ∷ [])
    ∷ (evaluated a ∷ branched a false ∷ evaluated b ∷ branched b true ∷ evaluated disjunction ∷ [])
    ∷ []
disjunction_value = refl

-- !(a == 0) && (b, c) fails: the first operand of `&&` is a condition wherever it stands
mixed_fails : words_of (form_of outside (binary_at 0 binary.LogAnd (unary_at 0 unary.Not (paren 1 (binary_at 1 binary.Equal a (number 0 3)))) (paren 4 (binary_at 5 binary.Comma b c)))) (Some false) ≡
    (evaluated a ∷ branched a false ∷ [])
    ∷ (evaluated a ∷ branched a true ∷ evaluated b ∷ evaluated c ∷ branched c false ∷ [])
    ∷ []
mixed_fails = refl

-- (a = b) is a condition like any other, and so is a cast of one with operators of its own
abbrev stored : Node
stored = assigned 1 a b

assignment_fails : words_of (form_of outside (paren 0 stored)) (Some false) ≡
    (evaluated a ∷ evaluated b ∷ evaluated stored ∷ branched stored false ∷ []) ∷ []
assignment_fails = refl

abbrev converted : Node
converted = cast_at 0 (paren 3 (unary_at 4 unary.Not b))

cast_holds : words_of (form_of outside converted) (Some true) ≡
    (evaluated b ∷ evaluated (unary_at 4 unary.Not b) ∷ evaluated converted ∷ branched converted true ∷ []) ∷ []
cast_holds = refl

-- p++, and sizeof(T) with nothing below it
counted_up : words_of (form_of outside (unary_at 6 unary.PostInc (ident 6 6))) None ≡
    (evaluated (ident 6 6) ∷ evaluated (unary_at 6 unary.PostInc (ident 6 6)) ∷ []) ∷ []
counted_up = refl

size_of_type : words_of (form_of outside (sizeof_type 1)) None ≡ (evaluated (sizeof_type 1) ∷ []) ∷ []
size_of_type = refl

-- __builtin_offsetof(T, x[a]) evaluates no index
offset : words_of (form_of outside (offset_of 1 7 (at_index 2 a ∷ []))) None ≡ (evaluated (offset_of 1 7 (at_index 2 a ∷ [])) ∷ []) ∷ []
offset = refl

-- __builtin_va_arg(p, T)
variable_argument : words_of (form_of outside (va_arg 1 (ident 6 2))) None ≡ (evaluated (ident 6 2) ∷ evaluated (va_arg 1 (ident 6 2)) ∷ []) ∷ []
variable_argument = refl

-- (g)(): parentheses round the callee vanish
abbrev through_parentheses : Node
through_parentheses = call 0 (paren 0 (ident 3 1)) no_more

calls_through_parentheses : words_of (form_of inside through_parentheses) None ≡
    (evaluated (ident 3 1) ∷ evaluated through_parentheses ∷ called through_parentheses ∷ []) ∷ []
calls_through_parentheses = refl

-- (T){ [c] = a, .x = { b } }: the elements in order, without the indices of designators
abbrev literal : Node
literal = compound 0 (braces 2 (designated 3 (at_index 3 c ∷ []) a ∷ designated 4 (at_member 4 7 ∷ []) (braces 5 (b ∷ [])) ∷ []))

literal_value : words_of (form_of outside literal) None ≡ (evaluated a ∷ evaluated b ∷ evaluated literal ∷ []) ∷ []
literal_value = refl
