-- Matches, by computation.
use Rattle.std.proofs.Common.{◌≡◌, true, false, [], ◌∷◌, None, Some, refl}
use Rattle.c_objects.proofs.Building.{name, constant, number, paren, star, index, dot, arrow, token, other, word, unary_of}
use Rattle.c_tree.specs.declared.operator.AssignOp.TheVariants as assign
use Rattle.c_tree.specs.declared.operator.BinaryOp.TheVariants as binary
use Rattle.c_tree.specs.declared.operator.UnaryOp.TheVariants as unary
use Rattle.c_tree.specs.declared.token.TokenKind.TheVariants as kinds
use Rattle.c_tree.specs.Node as nodes
use Rattle.c_tree.specs.Symbol.{CharLiteral}
use Rattle.hole_matching.specs.Matching.{One, Many}
use Rattle.c_tree.specs.PathSubjects.Subjects.{Tree, DerefOf}
use Rattle.hole_matching.proofs.Building.{hole, named, in_parens, symbol, decimal, strings, calling, starred, indexed, dotted, arrowed, combining, assigning, numbered, call_of, assigned, sum, initialized, braces, match, does_match, taken}

-- `{ *v }` over `*p`
pub star_over_star : match (starred (hole 0)) (Tree (star (name 0))) ≡ Some (Some (One (Tree (name 0))) ∷ None ∷ None ∷ None ∷ None ∷ None ∷ None ∷ None ∷ None ∷ None ∷ None ∷ None ∷ None ∷ None ∷ None ∷ None ∷ [])
star_over_star = refl

-- `{ *v }` over the `*p` in `p->f`, and over `p[i]`, which `{ v[x] }` matches
star_over_arrow : match (starred (hole 0)) (DerefOf (name 0)) ≡ match (starred (hole 0)) (Tree (star (name 0)))
star_over_arrow = refl

star_over_index : does_match (starred (hole 0)) (index (name 0) (name 3)) ≡ false
star_over_index = refl

index_over_index : taken (indexed (hole 0) (hole 1)) (index (name 0) (name 3)) 0 ≡ Some (One (Tree (name 0)))
index_over_index = refl

index_over_index_inside : taken (indexed (hole 0) (hole 1)) (index (name 0) (name 3)) 1 ≡ Some (One (Tree (name 3)))
index_over_index_inside = refl

-- `{ x }` takes the `*p` in `p->f` itself
hole_over_arrow : match (hole 1) (DerefOf (name 0)) ≡ Some (None ∷ Some (One (DerefOf (name 0))) ∷ None ∷ None ∷ None ∷ None ∷ None ∷ None ∷ None ∷ None ∷ None ∷ None ∷ None ∷ None ∷ None ∷ None ∷ [])
hole_over_arrow = refl

-- a pattern is matched at the node and never below it: `{ *v }` over `**q` takes `*q`, and over `-*p` nothing
outermost_star : taken (starred (hole 1)) (star (star (name 5))) 1 ≡ Some (One (Tree (star (name 5))))
outermost_star = refl

below : does_match (starred (hole 0)) (unary_of unary.Minus (star (name 0))) ≡ false
below = refl

-- `{ v->f }` and `{ (*v).f }` over `p->f` and over `(*p).f`
arrow_over_arrow : taken (arrowed (hole 0) 8) (arrow (name 0) 8) 0 ≡ Some (One (Tree (name 0)))
arrow_over_arrow = refl

arrow_over_dot : taken (arrowed (hole 0) 8) (dot (paren (star (name 0))) 8) 0 ≡ Some (One (Tree (name 0)))
arrow_over_dot = refl

dot_over_arrow : taken (dotted (in_parens (starred (hole 0))) 8) (arrow (name 0) 8) 0 ≡ Some (One (Tree (name 0)))
dot_over_arrow = refl

-- `{ x.f }` over `p->f` takes the `*p` that is read out of it
dot_takes_star : taken (dotted (hole 1) 8) (arrow (name 0) 8) 1 ≡ Some (One (DerefOf (name 0)))
dot_takes_star = refl

other_member : does_match (arrowed (hole 0) 8) (arrow (name 0) 9) ≡ false
other_member = refl

-- arguments one by one: `{ g(x) }` over g(i), g(), g(i, a); `{ g(x, y) }` over g(i, a)
one_argument : taken (calling (named 6) (hole 1 ∷ [])) (call_of (name 6) (name 3 ∷ [])) 1 ≡ Some (One (Tree (name 3)))
one_argument = refl

too_few : does_match (calling (named 6) (hole 1 ∷ [])) (call_of (name 6) []) ≡ false
too_few = refl

too_many : does_match (calling (named 6) (hole 1 ∷ [])) (call_of (name 6) (name 3 ∷ name 2 ∷ [])) ≡ false
too_many = refl

two_arguments : taken (calling (named 6) (hole 1 ∷ hole 2 ∷ [])) (call_of (name 6) (name 2 ∷ name 3 ∷ [])) 2 ≡ Some (One (Tree (name 3)))
two_arguments = refl

no_argument : does_match (calling (named 6) []) (call_of (name 6) []) ≡ true
no_argument = refl

other_function : does_match (calling (named 6) []) (call_of (name 0) []) ≡ false
other_function = refl

-- the rest of a list: `{ g(args) }` over g() and g(i, (a)), `{ g(x, args) }` over g(i) and g(), and with parentheses
empty_rest : taken (calling (named 6) (hole 3 ∷ [])) (call_of (name 6) []) 3 ≡ Some (Many [])
empty_rest = refl

whole_rest : taken (calling (named 6) (hole 3 ∷ [])) (call_of (name 6) (name 3 ∷ paren (name 2) ∷ [])) 3 ≡ Some (Many (Tree (name 3) ∷ Tree (paren (name 2)) ∷ []))
whole_rest = refl

rest_behind : taken (calling (named 6) (hole 1 ∷ hole 3 ∷ [])) (call_of (name 6) (name 3 ∷ name 2 ∷ [])) 3 ≡ Some (Many (Tree (name 2) ∷ []))
rest_behind = refl

empty_rest_behind : taken (calling (named 6) (hole 1 ∷ hole 3 ∷ [])) (call_of (name 6) (name 3 ∷ [])) 3 ≡ Some (Many [])
empty_rest_behind = refl

none_before_rest : does_match (calling (named 6) (hole 1 ∷ hole 3 ∷ [])) (call_of (name 6) []) ≡ false
none_before_rest = refl

rest_in_parentheses : taken (calling (named 6) (in_parens (hole 3) ∷ [])) (call_of (name 6) (name 3 ∷ [])) 3 ≡ Some (Many (Tree (name 3) ∷ []))
rest_in_parentheses = refl

-- a hole for arguments takes no expression: `{ args }` over i
rest_alone : does_match (hole 3) (name 3) ≡ false
rest_alone = refl

-- any callee: `{ fn(args) }` over g(i), (g)(i), (*p)(), p->f()
any_callee : taken (calling (hole 4) (hole 3 ∷ [])) (call_of (name 6) (name 3 ∷ [])) 4 ≡ Some (One (Tree (name 6)))
any_callee = refl

callee_in_parentheses : taken (calling (in_parens (hole 4)) (hole 3 ∷ [])) (call_of (paren (name 6)) (name 3 ∷ [])) 4 ≡ Some (One (Tree (name 6)))
callee_in_parentheses = refl

callee_behind_star : taken (calling (hole 4) (hole 3 ∷ [])) (call_of (paren (star (name 0))) []) 4 ≡ Some (One (Tree (star (name 0))))
callee_behind_star = refl

callee_member : taken (calling (hole 4) (hole 3 ∷ [])) (call_of (arrow (name 0) 8) []) 4 ≡ Some (One (Tree (arrow (name 0) 8)))
callee_member = refl

-- a hole that is met twice: `{ g(x, x) }` over g(i, (i)), g((i), i), g(i, a), g(p->f, (*p).f), g(1, 0x1)
met_twice : taken (calling (named 6) (hole 1 ∷ hole 1 ∷ [])) (call_of (name 6) (name 3 ∷ paren (name 3) ∷ [])) 1 ≡ Some (One (Tree (name 3)))
met_twice = refl

met_twice_in_parentheses : taken (calling (named 6) (hole 1 ∷ hole 1 ∷ [])) (call_of (name 6) (paren (name 3) ∷ name 3 ∷ [])) 1 ≡ Some (One (Tree (name 3)))
met_twice_in_parentheses = refl

met_differently : does_match (calling (named 6) (hole 1 ∷ hole 1 ∷ [])) (call_of (name 6) (name 3 ∷ name 2 ∷ [])) ≡ false
met_differently = refl

met_as_arrow_and_dot : taken (calling (named 6) (hole 1 ∷ hole 1 ∷ [])) (call_of (name 6) (arrow (name 0) 8 ∷ dot (paren (star (name 0))) 8 ∷ [])) 1 ≡ Some (One (Tree (arrow (name 0) 8)))
met_as_arrow_and_dot = refl

met_as_values : does_match (calling (named 6) (hole 1 ∷ hole 1 ∷ [])) (call_of (name 6) (number 1 ∷ constant (kinds.Int 1 false true 2) ∷ [])) ≡ true
met_as_values = refl

-- the first place in the order of the text binds: `{ x[i] = x[i] }` takes the left `(a)`, bound inside its parentheses
met_first : taken (assigning assign.Plain (indexed (hole 1) (named 3)) (hole 1)) (assigned assign.Plain (index (paren (name 2)) (name 3)) (name 2)) 1 ≡ Some (One (Tree (name 2)))
met_first = refl

-- a rest that is met twice: `{ g(g(args), args) }` hasn't its first place last, so `{ p(g(args)) = g(args) }` over equal lists
rests_met_twice : does_match (assigning assign.Plain (calling (named 9) (hole 3 ∷ [])) (calling (named 6) (hole 3 ∷ []))) (assigned assign.Plain (call_of (name 9) (name 3 ∷ name 2 ∷ [])) (call_of (name 6) (paren (name 3) ∷ name 2 ∷ []))) ≡ true
rests_met_twice = refl

rests_met_differently : does_match (assigning assign.Plain (calling (named 9) (hole 3 ∷ [])) (calling (named 6) (hole 3 ∷ []))) (assigned assign.Plain (call_of (name 9) (name 3 ∷ name 2 ∷ [])) (call_of (name 6) (name 3 ∷ []))) ≡ false
rests_met_differently = refl

-- parentheses on both sides: `{ (*(v)) }` over ((*((p))))
in_parentheses : taken (in_parens (starred (in_parens (hole 0)))) (paren (paren (star (paren (paren (name 0)))))) 0 ≡ Some (One (Tree (name 0)))
in_parentheses = refl

-- a name matches by its spelling, whatever it names
names_by_spelling : does_match (named 3) (numbered 99 (nodes.Primary (nodes.Ident (word 3)))) ≡ true
names_by_spelling = refl

other_name : does_match (named 3) (name 2) ≡ false
other_name = refl

-- constants: 16 and 0x10u by value, 16 and 17; 'a' by spelling, and a character isn't the integer
integers_by_value : does_match (decimal 16) (constant (kinds.Int 16 false true 0)) ≡ true
integers_by_value = refl

other_integer : does_match (decimal 16) (number 17) ≡ false
other_integer = refl

characters_by_spelling : does_match (symbol (CharLiteral false 30)) (other (nodes.Primary (nodes.Constant (token (kinds.Char false) 30)))) ≡ true
characters_by_spelling = refl

other_character : does_match (symbol (CharLiteral false 30)) (other (nodes.Primary (nodes.Constant (token (kinds.Char false) 31)))) ≡ false
other_character = refl

character_is_no_integer : does_match (decimal 0) (constant (kinds.Char false)) ≡ false
character_is_no_integer = refl

-- strings by the spellings of their literals
strings_by_spelling : does_match (strings (40 ∷ 41 ∷ [])) (other (nodes.Primary (nodes.StrConst (token (kinds.Str false) 40 ∷ token (kinds.Str false) 41 ∷ [])))) ≡ true
strings_by_spelling = refl

fewer_literals : does_match (strings (40 ∷ [])) (other (nodes.Primary (nodes.StrConst (token (kinds.Str false) 40 ∷ token (kinds.Str false) 41 ∷ [])))) ≡ false
fewer_literals = refl

-- operators: `{ x = x + 1 }` over i = i + 1, i = a + 1, i += 1, i = i - 1
same_operators : does_match (assigning assign.Plain (hole 1) (combining binary.Add (hole 1) (decimal 1))) (assigned assign.Plain (name 3) (sum binary.Add (name 3) (number 1))) ≡ true
same_operators = refl

other_operand : does_match (assigning assign.Plain (hole 1) (combining binary.Add (hole 1) (decimal 1))) (assigned assign.Plain (name 3) (sum binary.Add (name 2) (number 1))) ≡ false
other_operand = refl

other_assignment : does_match (assigning assign.Plain (hole 1) (hole 2)) (assigned assign.Add (name 3) (number 1)) ≡ false
other_assignment = refl

other_operator : does_match (combining binary.Add (hole 1) (hole 2)) (sum binary.Subtract (name 3) (name 0)) ≡ false
other_operator = refl

-- an initialized name is an assignment: `{ v = x }` over `T *p = q`; with braces it matches nothing, not even a hole
initialized_name : taken (assigning assign.Plain (hole 0) (hole 1)) (initialized (name 0) (name 5)) 0 ≡ Some (One (Tree (name 0)))
initialized_name = refl

initial_value : taken (assigning assign.Plain (hole 0) (hole 1)) (initialized (name 0) (name 5)) 1 ≡ Some (One (Tree (name 5)))
initial_value = refl

hole_over_initialized : taken (hole 1) (initialized (name 0) (name 5)) 1 ≡ Some (One (Tree (initialized (name 0) (name 5))))
hole_over_initialized = refl

no_other_assignment : does_match (assigning assign.Add (hole 0) (hole 1)) (initialized (name 0) (name 5)) ≡ false
no_other_assignment = refl

braces_match_nothing : does_match (assigning assign.Plain (hole 0) (hole 1)) (initialized (name 1) (braces [])) ≡ false
braces_match_nothing = refl

no_hole_over_braces : does_match (hole 1) (initialized (name 1) (braces [])) ≡ false
no_hole_over_braces = refl
