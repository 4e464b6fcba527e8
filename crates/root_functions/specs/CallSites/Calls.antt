-- THE CALLS OF A BODY, in the order of the text: those that are evaluated somewhere in it, whether control comes there or not. The calls in a
-- callee and in arguments stand before the call itself, as its closing parenthesis stands behind theirs. Nothing is evaluated in `sizeof` and
-- `__builtin_offsetof`, in type names, array bounds, designators and values of `case`, and in the initial values of variables without
-- automatic storage. Each definition puts the calls of a tree behind those that it is given.
use Rattle.std.specs.Prelude.{List, [], ◌∷◌, ◌++◌, map, Option, None, Some}
use Rattle.std.specs.Borrow.{Bor}
use Rattle.c_tree.specs.declared.operator.UnaryOp.{UnaryOp}
use Rattle.c_tree.specs.declared.operator.UnaryOp.TheVariants as unary
use Rattle.c_tree.specs.declared.tree.Tree.{Tree}
use Rattle.c_tree.specs.Node.{Node, node, Primary, Operation, Initializer, Outer, Statement, Iteration, Jump, PrimaryShape, OperationShape, InitializerShape, OuterShape, StatementShape, IterationShape, JumpShape, Paren, VaArg, Index, Call, Member, Arrow, CompoundLit, Unary, SizeofType, Cast, Binary, Cond, Assign, Init, Braces, Designated, Declaration, Block, ExprStmt, If, Switch, Case, Default, Label, While, Do, For, ForDeclaration, Return, MaybeNode, absent, present, Nodes, no_more, more}
use Rattle.c_tree.specs.Views.{node_of}
use Rattle.flow_graph.specs.CPaths.Events.{Variable}
use Rattle.flow_graph.specs.CPaths.Facts.{Facts}

-- the nodes that these trees are
abbrev pub nodes_at : List (Bor Tree) → List Node
nodes_at trees = map (λ t. node_of t.now) trees

-- the operand of `sizeof` isn't evaluated, and adds none
abbrev pub unless_sizeof : UnaryOp → List Node → List Node → List Node
unless_sizeof unary.Sizeof without found = without
unless_sizeof _ without found = found

abbrev mutual
  -- of an expression or an initial value
  pub with_expression : List Node → Node → List Node
  with_expression calls (node i p (Primary k)) = with_primary calls k
  with_expression calls (node i p (Operation k)) = with_operation calls (node i p (Operation k)) k
  with_expression calls (node i p (Initializer k)) = with_initializer calls k
  with_expression calls _ = calls

  pub with_primary : List Node → PrimaryShape → List Node
  with_primary calls (Paren inner) = with_expression calls inner
  with_primary calls (VaArg list of) = with_expression calls list
  with_primary calls _ = calls

  -- the whole tree is given too
  pub with_operation : List Node → Node → OperationShape → List Node
  with_operation calls n (Index array index) = with_expression (with_expression calls array) index
  with_operation calls n (Call callee parenthesis arguments) = with_all (with_expression calls callee) arguments ++ (n ∷ [])
  with_operation calls n (Member x member) = with_expression calls x
  with_operation calls n (Arrow x member) = with_expression calls x
  with_operation calls n (CompoundLit of braces) = with_expression calls braces
  with_operation calls n (Unary op x) = unless_sizeof op calls (with_expression calls x)
  with_operation calls n (SizeofType of) = calls
  with_operation calls n (Cast to x) = with_expression calls x
  with_operation calls n (Binary op x y) = with_expression (with_expression calls x) y
  with_operation calls n (Cond x y z) = with_expression (with_expression (with_expression calls x) y) z
  with_operation calls n (Assign op x y) = with_expression (with_expression calls x) y

  pub with_initializer : List Node → InitializerShape → List Node
  with_initializer calls (Init name declarator initial) = with_expression calls initial
  with_initializer calls (Braces elements comma) = with_all calls elements
  with_initializer calls (Designated designators initial) = with_expression calls initial

  pub with_all : List Node → Nodes → List Node
  with_all calls no_more = calls
  with_all calls (more n ns) = with_all (with_expression calls n) ns

-- of an expression that may be left out
abbrev pub with_maybe : List Node → MaybeNode → List Node
with_maybe calls absent = calls
with_maybe calls (present e) = with_expression calls e

-- of the initial value of this variable, if it has automatic storage
abbrev pub with_initial : Option Variable → List Node → Node → List Node
with_initial None calls initial = calls
with_initial (Some x) calls initial = with_expression calls initial

abbrev pub with_declarator : Facts → List Node → Node → List Node
with_declarator F calls (node i p (Initializer (Init name declarator initial))) = with_initial (F.variable_of declarator) calls initial
with_declarator F calls _ = calls

abbrev pub with_declarators : Facts → List Node → Nodes → List Node
with_declarators F calls no_more = calls
with_declarators F calls (more n ns) = with_declarators F (with_declarator F calls n) ns

abbrev pub with_outer : Facts → List Node → OuterShape → List Node
with_outer F calls (Declaration specs declarators) = with_declarators F calls declarators
with_outer F calls _ = calls

-- of a declaration, here that in the head of a `for`
abbrev pub with_declaration : Facts → List Node → Node → List Node
with_declaration F calls (node i p (Outer k)) = with_outer F calls k
with_declaration F calls _ = calls

abbrev pub with_jump : List Node → JumpShape → List Node
with_jump calls (Return value) = with_maybe calls value
with_jump calls _ = calls

abbrev mutual
  -- of a statement or a declaration
  pub with_statement : Facts → List Node → Node → List Node
  with_statement F calls (node i p (Outer k)) = with_outer F calls k
  with_statement F calls (node i p (Statement k)) = with_plain F calls k
  with_statement F calls (node i p (Iteration k)) = with_iteration F calls k
  with_statement F calls (node i p (Jump k)) = with_jump calls k
  with_statement F calls _ = calls

  pub with_plain : Facts → List Node → StatementShape → List Node
  with_plain F calls (Block items) = with_items F calls items
  with_plain F calls (ExprStmt value) = with_maybe calls value
  with_plain F calls (If condition then otherwise) = with_else F (with_statement F (with_expression calls condition) then) otherwise
  with_plain F calls (Switch value body) = with_statement F (with_expression calls value) body
  with_plain F calls (Case value body) = with_statement F calls body
  with_plain F calls (Default body) = with_statement F calls body
  with_plain F calls (Label label body) = with_statement F calls body

  pub with_iteration : Facts → List Node → IterationShape → List Node
  with_iteration F calls (While condition body) = with_statement F (with_expression calls condition) body
  with_iteration F calls (Do body condition) = with_expression (with_statement F calls body) condition
  with_iteration F calls (For first condition step body) = with_statement F (with_maybe (with_maybe (with_maybe calls first) condition) step) body
  with_iteration F calls (ForDeclaration declaration condition step body) = with_statement F (with_maybe (with_maybe (with_declaration F calls declaration) condition) step) body

  pub with_else : Facts → List Node → MaybeNode → List Node
  with_else F calls absent = calls
  with_else F calls (present s) = with_statement F calls s

  pub with_items : Facts → List Node → Nodes → List Node
  with_items F calls no_more = calls
  with_items F calls (more s ss) = with_items F (with_statement F calls s) ss

-- THE CALLS of a body
abbrev pub calls_of : Facts → Node → List Node
calls_of F body = with_statement F [] body
