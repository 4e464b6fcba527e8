-- Link faults, bodies and callees of patterns, computed: a function `f` in two files, twice in one, and in patterns.
use Rattle.std.proofs.Common.{◌≡◌, ℕ, [], ◌∷◌, None, Some, Bool, true, false, refl}
use Rattle.c_tree.specs.declared.place.Place.{Place}
use Rattle.c_tree.specs.Node.{Node, node, Statement, Block, no_more}
use Rattle.c_tree.specs.Symbol.{Word}
use Rattle.c_tree.specs.Syntax as syntax
use Rattle.type_rules.specs.Functions.{Defined}
use Rattle.call_graph.specs.OfPrograms.Bodies.{body_of}
use Rattle.call_graph.specs.OfPrograms.Repeats.{link_fault}
use Rattle.call_graph.specs.Callees.{calls}

abbrev there : ℕ → ℕ → Place
there file token = record { file = file; token = token }

-- the function whose name has this number, defined in this file, its name at this token
abbrev defined : ℕ → Bool → ℕ → ℕ → Defined
defined name own file token = record { name = name; own = own; file = file; formals = []; body = node 0 (there file token) (Statement (Block no_more)); place = there file token }

-- both have external linkage
pub two_external : link_fault (defined 7 false 0 1 ∷ defined 7 false 1 1 ∷ []) ≡ Some (7, there 1 1)
two_external = refl

-- each belongs to its file, or one of them does
pub two_own : link_fault (defined 7 true 0 1 ∷ defined 7 true 1 1 ∷ []) ≡ None
two_own = refl

pub one_own : link_fault (defined 7 true 0 1 ∷ defined 7 false 1 1 ∷ []) ≡ None
one_own = refl

-- two in one file, of which the second repeats the first; and the first of two faults
pub one_file : link_fault (defined 7 true 0 1 ∷ defined 8 false 0 5 ∷ defined 7 false 0 9 ∷ []) ≡ Some (7, there 0 9)
one_file = refl

pub first_of_two : link_fault (defined 7 false 0 1 ∷ defined 8 false 0 5 ∷ defined 8 false 1 2 ∷ defined 7 false 1 6 ∷ []) ≡ Some (8, there 1 2)
first_of_two = refl

-- a file's own body first, then the external one, and none that belongs to another file
pub own_first : body_of 1 7 (defined 7 false 0 1 ∷ defined 7 true 1 1 ∷ []) ≡ Some 1
own_first = refl

pub else_external : body_of 2 7 (defined 7 false 0 1 ∷ defined 7 true 1 1 ∷ []) ≡ Some 0
else_external = refl

pub others_own : body_of 2 7 (defined 7 true 1 1 ∷ []) ≡ None
others_own = refl

abbrev name : ℕ → syntax.Syntax
name n = syntax.Primary (syntax.Ident (Word n))

abbrev call : syntax.Syntax → syntax.Syntax → syntax.Syntax
call callee argument = syntax.Operation (syntax.Call callee (syntax.more argument syntax.no_more))

-- `(f)(x)` and `g(f(x))` call `f`; `g(f)` doesn't
pub in_parentheses : calls 7 (call (syntax.Primary (syntax.Paren (name 7))) (name 1)) ≡ true
in_parentheses = refl

pub in_argument : calls 7 (call (name 8) (call (name 7) (name 1))) ≡ true
in_argument = refl

pub as_argument : calls 7 (call (name 8) (name 7)) ≡ false
as_argument = refl
