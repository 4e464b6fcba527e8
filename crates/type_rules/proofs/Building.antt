-- Small trees built by hand. Each token stands at a place of its own in file 0; a node has the number 0, unless it is given one.
use Rattle.std.specs.Prelude.{ℕ, true, false, List, [], ◌∷◌, Option, None, Some}
use Rattle.c_tree.specs.declared.keyword.Keyword.{Keyword}
use Rattle.c_tree.specs.declared.keyword.Keyword.TheVariants as words
use Rattle.c_tree.specs.declared.operator.AssignOp.TheVariants as assign
use Rattle.c_tree.specs.declared.operator.BinaryOp.{BinaryOp}
use Rattle.c_tree.specs.declared.operator.StructOrUnion.{StructOrUnion}
use Rattle.c_tree.specs.declared.operator.UnaryOp.{UnaryOp}
use Rattle.c_tree.specs.declared.place.Place.{Place}
use Rattle.c_tree.specs.declared.punctuator.Punctuator.TheVariants as marks
use Rattle.c_tree.specs.declared.token.Mark.TheVariants as marked
use Rattle.c_tree.specs.declared.token.Token.{Token}
use Rattle.c_tree.specs.declared.token.TokenKind.{TokenKind}
use Rattle.c_tree.specs.declared.token.TokenKind.TheVariants as kinds
use Rattle.c_tree.specs.Node.{Node, node, Shape, Primary, Operation, Initializer, Specifier, Declarator, Part, Outer, Statement, Iteration, Ident, Constant, Paren, Index, Call, Member, Arrow, Unary, SizeofType, Cast, Binary, Cond, Assign, Init, TypeName, Specs, StructTag, StructBody, EnumBody, StructDeclaration, Param, Named, Nested, Unnamed, SpecWord, ArrayBound, VoidParams, Params, Enumerator, Declaration, Function, Block, ExprStmt, ForDeclaration, MaybeNode, absent, present, Nodes, no_more, more}
use Rattle.type_rules.specs.Definition.{after_all, meetings_then, first_fault, type_of, var_at}
use Rattle.type_rules.specs.Faults.{Fault}
use Rattle.type_rules.specs.Parts.{flat}
use Rattle.type_rules.specs.Roles.{Plain}
use Rattle.type_rules.specs.Scopes.{Scopes, at_start, deeper}
use Rattle.type_rules.specs.Types.{CType}
use Rattle.type_rules.specs.Unit.{visits_of, plainly, places_of}
use Rattle.type_rules.specs.Vars.{CVar}

abbrev pub at : ℕ → Place
at k = record { file = 0; token = k }

abbrev pub token : TokenKind → ℕ → ℕ → Token
token t name k = record { kind = t; name = name; start = 0; len = 0; line = 0; col = 0; source = 0; place = at k }

-- the word with this number, as the token k
abbrev pub word : ℕ → ℕ → Token
word name k = token (kinds.Word marked.Plain) name k

abbrev pub star : Token
star = token (kinds.Punct marks.Star) 0 0

abbrev pub a_node : ℕ → Shape → Node
a_node k s = node 0 (at k) s

abbrev pub list : List Node → Nodes
list [] = no_more
list (e ∷ es) = more e (list es)

-- expressions
abbrev pub name : ℕ → ℕ → Node
name x k = a_node k (Primary (Ident (word x k)))

abbrev pub func : ℕ → Node
func k = a_node k (Primary (Ident (token (kinds.Word marked.FunctionName) 99 k)))

abbrev pub constant : TokenKind → Node
constant t = a_node 0 (Primary (Constant (token t 0 0)))

abbrev pub decimal : ℕ → Node
decimal value = constant (kinds.Int value true false 0)

abbrev pub paren : Node → Node
paren e = a_node 0 (Primary (Paren e))

abbrev pub unary : UnaryOp → ℕ → Node → Node
unary op k e = a_node k (Operation (Unary op e))

abbrev pub binary : BinaryOp → Node → Node → Node
binary op x y = a_node 0 (Operation (Binary op x y))

abbrev pub choice : Node → Node → Node → Node
choice c x y = a_node 0 (Operation (Cond c x y))

abbrev pub assigned : ℕ → Node → Node → Node
assigned k x y = a_node k (Operation (Assign assign.Plain x y))

abbrev pub call : ℕ → Node → List Node → Node
call k f es = a_node k (Operation (Call f (at 0) (list es)))

abbrev pub dot : ℕ → Node → ℕ → Node
dot k e x = a_node k (Operation (Member e (word x 0)))

abbrev pub arrow : ℕ → Node → ℕ → Node
arrow k e x = a_node k (Operation (Arrow e (word x 0)))

abbrev pub index : ℕ → Node → Node → Node
index k x y = a_node k (Operation (Index x y))

abbrev pub cast : Node → Node → Node
cast t e = a_node 0 (Operation (Cast t e))

abbrev pub sizeof : Node → Node
sizeof t = a_node 0 (Operation (SizeofType t))

-- specifiers
abbrev pub keyword : Keyword → Node
keyword k = a_node 0 (Part (SpecWord (token (kinds.Keyword k) 0 0)))

abbrev pub type_name : ℕ → Node
type_name x = a_node 0 (Part (SpecWord (word x 0)))

abbrev pub tag : StructOrUnion → ℕ → ℕ → Node
tag which x k = a_node 0 (Specifier (StructTag which (word x k)))

abbrev pub tagged_body : StructOrUnion → ℕ → ℕ → List Node → Node
tagged_body which x k members = a_node 0 (Specifier (StructBody which (Some (word x k)) (list members)))

abbrev pub body : StructOrUnion → List Node → Node
body which members = a_node 0 (Specifier (StructBody which None (list members)))

abbrev pub enumeration : List Node → Node
enumeration es = a_node 0 (Specifier (EnumBody None (list es) false))

abbrev pub enumerated : ℕ → ℕ → MaybeNode → Node
enumerated x k value = a_node 0 (Part (Enumerator (word x k) value))

abbrev pub specs : List Node → Node
specs items = a_node 0 (Specifier (Specs (list items)))

abbrev pub ints : Node
ints = specs (keyword words.Int ∷ [])

abbrev pub chars : Node
chars = specs (keyword words.Char ∷ [])

abbrev pub stored : Keyword → Keyword → Node
stored k l = specs (keyword k ∷ keyword l ∷ [])

abbrev pub voids : Node
voids = specs (keyword words.Void ∷ [])

abbrev pub type_in : Node → MaybeNode → Node
type_in s d = a_node 0 (Specifier (TypeName s d))

abbrev pub member : Node → List Node → Node
member s ds = a_node 0 (Specifier (StructDeclaration s (list ds)))

-- declarators
abbrev pub declarator : List Token → ℕ → ℕ → List Node → Node
declarator stars x k suffixes = a_node 0 (Declarator (Named stars (word x k) (list suffixes)))

abbrev pub plain : ℕ → ℕ → Node
plain x k = declarator [] x k []

abbrev pub pointer : ℕ → ℕ → Node
pointer x k = declarator (star ∷ []) x k []

-- `*` without a name
abbrev pub pointer_alone : Node
pointer_alone = a_node 0 (Declarator (Unnamed (star ∷ []) no_more))

abbrev pub nested : List Token → Node → List Node → Node
nested stars inner suffixes = a_node 0 (Declarator (Nested stars inner (list suffixes)))

abbrev pub bound : MaybeNode → Node
bound e = a_node 0 (Part (ArrayBound [] e))

abbrev pub no_params : Node
no_params = a_node 0 (Part VoidParams)

abbrev pub params : List Node → Node
params ps = a_node 0 (Part (Params (list ps) false))

abbrev pub param : Node → Node → Node
param s d = a_node 0 (Specifier (Param s (present d)))

abbrev pub initialized : ℕ → ℕ → Node → Node
initialized x k e = a_node 0 (Initializer (Init (name x k) (plain x k) e))

-- declarations and statements
abbrev pub declaration : Node → List Node → Node
declaration s ds = a_node 0 (Outer (Declaration s (list ds)))

abbrev pub function : Node → Node → List Node → Node
function s d items = a_node 0 (Outer (Function s d (a_node 0 (Statement (Block (list items))))))

-- `void f(params) { items }`, where f is 0
abbrev pub f_with : List Node → List Node → Node
f_with ps items = function voids (declarator [] 0 0 (params ps ∷ [])) items

abbrev pub block : List Node → Node
block items = a_node 0 (Statement (Block (list items)))

abbrev pub statement : Node → Node
statement e = a_node 0 (Statement (ExprStmt (present e)))

-- `for (declaration condition; ) inner`
abbrev pub for_in : Node → Node → Node → Node
for_in d condition inner = a_node 0 (Iteration (ForDeclaration d (present condition) absent inner))

-- the scopes behind these declarations
abbrev pub behind : List Node → Scopes
behind es = after_all plainly at_start (visits_of (list es))

-- and behind these in a block there
abbrev pub inside : Scopes → List Node → Scopes
inside v es = after_all plainly (deeper v) (visits_of (list es))

-- the type of an expression behind these declarations, the variable behind it, and the first fault in it
abbrev pub type_behind : List Node → Node → Option CType
type_behind es e = type_of (behind es) Plain (flat e)

abbrev pub var_behind : List Node → Node → Option CVar
var_behind es e = var_at (behind es) Plain (flat e)

abbrev pub var_within : Scopes → Node → Option CVar
var_within v e = var_at v Plain (flat e)

abbrev pub var_inside : List Node → List Node → Node → Option CVar
var_inside es block e = var_within (inside (behind es) block) e

abbrev pub fault_behind : List Node → Node → Option Fault
fault_behind es e = first_fault (meetings_then (behind es) Plain (flat e) [])

-- the first fault of a unit
abbrev pub fault_of : List Node → Option Fault
fault_of unit = first_fault (places_of (list unit))
