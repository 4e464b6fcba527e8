-- What is known of small trees, and closing braces, computed.
use Rattle.std.specs.Prelude.{◌≡◌, refl, ℕ, List, [], ◌∷◌, Option, None, Some, Bool, true, false}
use Rattle.flow_graph.specs.CPaths.Events.{Variable}
use Rattle.c_tree.specs.declared.place.Place.{Place}
use Rattle.c_tree.specs.declared.punctuator.Punctuator.{Punctuator}
use Rattle.c_tree.specs.declared.punctuator.Punctuator.TheVariants as signs
use Rattle.c_tree.specs.declared.token.Mark.TheVariants as marks
use Rattle.c_tree.specs.declared.token.Token.{Token}
use Rattle.c_tree.specs.declared.token.TokenKind.{TokenKind}
use Rattle.c_tree.specs.declared.token.TokenKind.TheVariants as kinds
use Rattle.c_tree.specs.Node.{Node, node, Primary, Operation, Declarator, Statement, Ident, Paren, Call, Named, Block, no_more}
use Rattle.type_rules.specs.Definition.{Table}
use Rattle.type_rules.specs.Functions.{Defined}
use Rattle.type_rules.specs.Types.{CType, Func, Pointer, int}
use Rattle.type_rules.specs.Vars.{CVar}
use Rattle.type_rules.specs.Vars as vars
use Rattle.call_graph.specs.FunctionGraphs.Closing.{closing_brace}
use Rattle.call_graph.specs.FunctionGraphs.Known.{facts_of}
use Rattle.call_graph.specs.FunctionGraphs.Variables.{variable_of}

abbrev at : ℕ → Place
at n = record { file = 0; token = n }

abbrev token : TokenKind → ℕ → Token
token kind n = record { kind = kind; name = 7; start = 0; len = 1; line = 1; col = 1; source = 0; place = at n }

abbrev word : ℕ → Token
word n = token (kinds.Word marks.Plain) n

abbrev sign : Punctuator → ℕ → Token
sign mark n = token (kinds.Punct mark) n

-- `(g)()`, where the node of `g` is the first
abbrev site : Node
site = node 2 (at 0) (Operation (Call (node 1 (at 0) (Primary (Paren (node 0 (at 1) (Primary (Ident (word 1))))))) (at 3) no_more))

-- a table with this type and variable of the first node
abbrev table : CType → Option CVar → Table
table t x = Some (record { ty = t; var = x }) ∷ []

-- a definition of `g` in this file
abbrev defined : Bool → ℕ → Defined
defined own file = record { name = 7; own = own; file = file; formals = []; body = node 9 (at 9) (Statement (Block no_more)); place = at 8 }

-- whether the callee of `(g)()` in the first file has a body, if `g` has this type and these definitions
abbrev has_body : CType → List Defined → Bool
has_body t fs = (facts_of (table t None) 0 fs).has_body site

own_file : has_body (Func int) (defined true 0 ∷ []) ≡ true
own_file = refl

other_file : has_body (Func int) (defined false 1 ∷ []) ≡ true
other_file = refl

own_of_other_file : has_body (Func int) (defined true 1 ∷ []) ≡ false
own_of_other_file = refl

no_definition : has_body (Func int) [] ≡ false
no_definition = refl

-- a variable hides the function
hidden : has_body (Pointer (Func int)) (defined false 0 ∷ []) ≡ false
hidden = refl

-- what a declarator declares that has this variable in the table
abbrev declared : Option CVar → Option Variable
declared x = variable_of (table int x) (node 0 (at 1) (Declarator (Named [] (word 1) no_more)))

automatic : declared (Some (vars.Local 0 1 7)) ≡ Some (record { place = at 1; name = 7 })
automatic = refl

static : declared (Some (vars.LocalStatic 0 1 7)) ≡ None
static = refl

external : declared (Some (vars.Extern 7)) ≡ None
external = refl

parameter : declared (Some (vars.Param 0 1 7)) ≡ None
parameter = refl

function_name : declared None ≡ None
function_name = refl

-- `; { { } g } }`
abbrev tokens : List Token
tokens = sign signs.Semicolon 0 ∷ sign signs.OpenBrace 2 ∷ sign signs.OpenBrace 3 ∷ sign signs.CloseBrace 5 ∷ word 6 ∷ sign signs.CloseBrace 8 ∷ sign signs.CloseBrace 9 ∷ []

outer : closing_brace tokens (at 2) ≡ at 8
outer = refl

inner : closing_brace tokens (at 3) ≡ at 5
inner = refl
