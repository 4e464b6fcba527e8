-- Small trees for the examples. A tree stands at its first token; the numbers of nodes play no part in traces.
use Rattle.std.specs.Prelude.{ℕ, ◌+◌, ◌==◌, Bool, true, false, List, [], ◌∷◌, Option, None, Some}
use Rattle.c_tree.specs.declared.operator.AssignOp.TheVariants as assign
use Rattle.c_tree.specs.declared.operator.BinaryOp.{BinaryOp}
use Rattle.c_tree.specs.declared.operator.UnaryOp.{UnaryOp}
use Rattle.c_tree.specs.declared.place.Place.{Place}
use Rattle.c_tree.specs.declared.punctuator.Punctuator.TheVariants as signs
use Rattle.c_tree.specs.declared.token.Token.{Token}
use Rattle.c_tree.specs.declared.token.TokenKind.{TokenKind}
use Rattle.c_tree.specs.declared.token.TokenKind.TheVariants as kinds
use Rattle.c_tree.specs.declared.token.Mark.TheVariants as marks
use Rattle.c_tree.specs.Node.{Node, node, Primary, Operation, Initializer, Specifier, Declarator, Part, Outer, Statement, Iteration, Jump, Ident, Constant, Paren, VaArg, Offsetof, Call, Arrow, CompoundLit, Unary, SizeofType, Cast, Binary, Cond, Assign, Init, Braces, Designated, MemberDesignator, IndexDesignator, TypeName, Specs, Named, Declaration, Block, ExprStmt, If, Switch, Case, Default, Label, While, Do, For, ForDeclaration, Goto, Continue, Break, Return, MaybeNode, absent, present, Nodes, no_more, more}
use Rattle.flow_graph.specs.CPaths.Events.{Item, Variable, exited}
use Rattle.flow_graph.specs.CPaths.Facts.{Facts}
use Rattle.flow_graph.specs.CPaths.Traces.{Definition}

abbrev pub at : ℕ → Place
at n = record { file = 0; token = n }

-- a token at a place, by its kind and the number of its spelling
abbrev pub token : TokenKind → ℕ → ℕ → Token
token kind name n = record { kind = kind; name = name; start = 0; len = 1; line = 1; col = 1; source = 0; place = at n }

abbrev pub word : ℕ → ℕ → Token
word name n = token (kinds.Word marks.Plain) name n

-- an identifier by the number of its name
abbrev pub ident : ℕ → ℕ → Node
ident name n = node n (at n) (Primary (Ident (word name n)))

-- an integer constant
abbrev pub number : ℕ → ℕ → Node
number value n = node n (at n) (Primary (Constant (token (kinds.Int value true false 0) value n)))

abbrev pub paren : ℕ → Node → Node
paren n e = node n (at n) (Primary (Paren e))

abbrev pub call : ℕ → Node → Nodes → Node
call n f arguments = node n (at n) (Operation (Call f (at n) arguments))

abbrev pub unary_at : ℕ → UnaryOp → Node → Node
unary_at n op e = node n (at n) (Operation (Unary op e))

abbrev pub binary_at : ℕ → BinaryOp → Node → Node → Node
binary_at n op x y = node n (at n) (Operation (Binary op x y))

abbrev pub conditional : ℕ → Node → Node → Node → Node
conditional n x y z = node n (at n) (Operation (Cond x y z))

abbrev pub assigned : ℕ → Node → Node → Node
assigned n x y = node n (at n) (Operation (Assign assign.Plain x y))

abbrev pub arrow : ℕ → Node → ℕ → Node
arrow n x member = node n (at n) (Operation (Arrow x (word member n)))

-- some type, which plays no part
abbrev pub type_name : ℕ → Node
type_name n = node n (at n) (Specifier (TypeName (node n (at n) (Specifier (Specs no_more))) absent))

abbrev pub cast_at : ℕ → Node → Node
cast_at n e = node n (at n) (Operation (Cast (type_name n) e))

abbrev pub sizeof_type : ℕ → Node
sizeof_type n = node n (at n) (Operation (SizeofType (type_name n)))

abbrev pub va_arg : ℕ → Node → Node
va_arg n e = node n (at n) (Primary (VaArg e (type_name n)))

abbrev pub nodes : List Node → Nodes
nodes [] = no_more
nodes (e ∷ es) = more e (nodes es)

-- `[index]`, in a designator or in `__builtin_offsetof`
abbrev pub at_index : ℕ → Node → Node
at_index n e = node n (at n) (Part (IndexDesignator e))

-- `.member`, likewise
abbrev pub at_member : ℕ → ℕ → Node
at_member n member = node n (at n) (Part (MemberDesignator (word member n)))

abbrev pub offset_of : ℕ → ℕ → List Node → Node
offset_of n member path = node n (at n) (Primary (Offsetof (type_name n) (word member n) (nodes path)))

abbrev pub block : ℕ → List Node → Node
block n items = node n (at n) (Statement (Block (nodes items)))

-- an expression statement, at the place of its expression
abbrev pub stmt : Node → Node
stmt (node i p k) = node i p (Statement (ExprStmt (present (node i p k))))

-- `;`
abbrev pub nothing : ℕ → Node
nothing n = node n (at n) (Statement (ExprStmt absent))

abbrev pub if_then : ℕ → Node → Node → Node
if_then n c s = node n (at n) (Statement (If c s absent))

abbrev pub if_else : ℕ → Node → Node → Node → Node
if_else n c s t = node n (at n) (Statement (If c s (present t)))

abbrev pub switch : ℕ → Node → Node → Node
switch n e s = node n (at n) (Statement (Switch e s))

abbrev pub case_of : ℕ → Node → Node → Node
case_of n e s = node n (at n) (Statement (Case e s))

abbrev pub default : ℕ → Node → Node
default n s = node n (at n) (Statement (Default s))

abbrev pub label : ℕ → ℕ → Node → Node
label n name s = node n (at n) (Statement (Label (word name n) s))

abbrev pub while : ℕ → Node → Node → Node
while n c s = node n (at n) (Iteration (While c s))

abbrev pub do_while : ℕ → Node → Node → Node
do_while n s c = node n (at n) (Iteration (Do s c))

abbrev pub for_loop : ℕ → MaybeNode → MaybeNode → MaybeNode → Node → Node
for_loop n i c u s = node n (at n) (Iteration (For i c u s))

abbrev pub for_declared : ℕ → Node → MaybeNode → MaybeNode → Node → Node
for_declared n d c u s = node n (at n) (Iteration (ForDeclaration d c u s))

abbrev pub goto : ℕ → ℕ → Node
goto n name = node n (at n) (Jump (Goto (word name n)))

abbrev pub break : ℕ → Node
break n = node n (at n) (Jump Break)

abbrev pub continue : ℕ → Node
continue n = node n (at n) (Jump Continue)

abbrev pub return : ℕ → MaybeNode → Node
return n e = node n (at n) (Jump (Return e))

-- a declarator that is a name alone
abbrev pub declarator : ℕ → ℕ → Node
declarator name n = node n (at n) (Declarator (Named [] (word name n) no_more))

-- `*name = e`, at the star
abbrev pub pointer_init : ℕ → ℕ → Node → Node
pointer_init name n e = node n (at n) (Initializer (Init (ident name (n + 1)) (node n (at n) (Declarator (Named (token (kinds.Punct signs.Star) 99 n ∷ []) (word name (n + 1)) no_more))) e))

abbrev pub init : ℕ → ℕ → Node → Node
init name n e = node n (at n) (Initializer (Init (ident name n) (declarator name n) e))

abbrev pub braces : ℕ → List Node → Node
braces n es = node n (at n) (Initializer (Braces (nodes es) false))

abbrev pub designated : ℕ → List Node → Node → Node
designated n designators e = node n (at n) (Initializer (Designated (nodes designators) e))

abbrev pub compound : ℕ → Node → Node
compound n e = node n (at n) (Operation (CompoundLit (type_name n) e))

abbrev pub declaration : ℕ → List Node → Node
declaration n ds = node n (at n) (Outer (Declaration (node n (at n) (Specifier (Specs no_more))) (nodes ds)))

-- the name 9 has static storage where it is declared
abbrev pub local : Token → Bool → Option Variable
local t true = None
local t false = Some (record { place = t.place; name = t.name })

abbrev pub local_of : Node → Option Variable
local_of (node _ _ (Declarator (Named _ t _))) = local t (t.name == 9)
local_of _ = None

-- no callee has a body
abbrev pub outside : Facts
outside = record { has_body = λ n. false; variable_of = local_of }

-- every callee has one
abbrev pub inside : Facts
inside = record { has_body = λ n. true; variable_of = local_of }

-- the function at 0 with this body and its closing brace at 99
abbrev pub function : List Node → Definition
function items = record { place = at 0; body = block 1 items; close = at 99 }

abbrev pub end : Item
end = exited (at 0) (at 99)
