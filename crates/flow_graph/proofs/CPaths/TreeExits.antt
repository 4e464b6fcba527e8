-- In a tree of C exits stand behind what a `return` evaluates alone.
use Rattle.std.proofs.Common.{Bool, true, false, Option, None, Some, refl}
use Rattle.c_tree.specs.declared.operator.BinaryOp.{BinaryOp}
use Rattle.c_tree.specs.declared.operator.BinaryOp.TheVariants as binary
use Rattle.c_tree.specs.declared.operator.UnaryOp.{UnaryOp}
use Rattle.c_tree.specs.declared.operator.UnaryOp.TheVariants as unary
use Rattle.c_tree.specs.declared.place.Place.{Place}
use Rattle.c_tree.specs.Node.{Node, node, Primary, Operation, Initializer, Specifier, Declarator, Part, Outer, Statement, Iteration, Jump, PrimaryShape, OperationShape, InitializerShape, OuterShape, StatementShape, IterationShape, JumpShape, Ident, Constant, StrConst, Paren, VaArg, Offsetof, Hole, Index, Call, Member, Arrow, CompoundLit, Unary, SizeofType, Cast, Binary, Cond, Assign, Init, Braces, Designated, Declaration, Function, Empty, Block, ExprStmt, If, Switch, Case, Default, Label, While, Do, For, ForDeclaration, Goto, Continue, Break, Return, MaybeNode, absent, present, Nodes, no_more, more}
use Rattle.flow_graph.specs.CPaths.Events.{Variable}
use Rattle.flow_graph.specs.CPaths.Facts.{Facts}
use Rattle.flow_graph.specs.CPaths.Forms.{Form, Row}
use Rattle.flow_graph.specs.CPaths.TreeForms.{is_zero, call_itself, unary_form, binary_form, form_of, primary_form, operation_form, initializer_form, operands}
use Rattle.flow_graph.specs.CPaths.TreeFlow.{maybe_row, maybe_form, declared_then, initialized_then, declarator_then, declarators_row, outer_row, declaration_row, flow_of, statement_flow, iteration_flow, jump_flow, maybe_flow, flows_of}
use Rattle.flow_graph.specs.CPaths.Exits.{IsInnerForm, IsInnerRow, IsInnerMaybe, ExitsLast, ExitsLastIn}

call_inner : (b : Bool) (n : Node) → IsInnerRow (call_itself b n)
call_inner true n = (refl, (refl, tt))
call_inner false n = (refl, tt)

unary_inner : (n : Node) (op : UnaryOp) (x : Form) → IsInnerForm x → IsInnerForm (unary_form n op x)
unary_inner n unary.Not x h = (h, (refl, tt))
unary_inner n unary.Sizeof x h = (refl, tt)
unary_inner n _ x h = (h, (refl, tt))

binary_inner : (n : Node) (op : BinaryOp) (zero : Bool) (x y : Form) → IsInnerForm x → IsInnerForm y → IsInnerForm (binary_form n op zero x y)
binary_inner n binary.LogAnd zero x y h k = (h, k, (refl, tt))
binary_inner n binary.LogOr zero x y h k = (h, k, (refl, tt))
binary_inner n binary.Comma zero x y h k = (h, k, (refl, tt))
binary_inner n binary.Equal true x y h k = (h, (k, (refl, tt)))
binary_inner n binary.Equal false x y h k = (h, (k, (refl, tt)))
binary_inner n binary.NotEqual true x y h k = (h, (k, (refl, tt)))
binary_inner n binary.NotEqual false x y h k = (h, (k, (refl, tt)))
binary_inner n _ zero x y h k = (h, (k, (refl, tt)))

mutual
  pub form_inner : (F : Facts) (n : Node) → IsInnerForm (form_of F n)
  form_inner F (node i p (Primary k)) = primary_inner F (node i p (Primary k)) k
  form_inner F (node i p (Operation k)) = operation_inner F (node i p (Operation k)) k
  form_inner F (node i p (Initializer k)) = initializer_inner F (node i p (Initializer k)) k
  form_inner F (node i p (Specifier k)) = tt
  form_inner F (node i p (Declarator k)) = tt
  form_inner F (node i p (Part k)) = tt
  form_inner F (node i p (Outer k)) = tt
  form_inner F (node i p (Statement k)) = tt
  form_inner F (node i p (Iteration k)) = tt
  form_inner F (node i p (Jump k)) = tt

  primary_inner : (F : Facts) (n : Node) (k : PrimaryShape) → IsInnerForm (primary_form F n k)
  primary_inner F n (Ident name) = (refl, tt)
  primary_inner F n (Constant token) = (refl, tt)
  primary_inner F n (StrConst literals) = (refl, tt)
  primary_inner F n (Paren inner) = form_inner F inner
  primary_inner F n (VaArg list of) = (form_inner F list, (refl, tt))
  primary_inner F n (Offsetof of member path) = (refl, tt)
  primary_inner F n (Hole number) = (refl, tt)

  operation_inner : (F : Facts) (n : Node) (k : OperationShape) → IsInnerForm (operation_form F n k)
  operation_inner F n (Index array index) = (form_inner F array, (form_inner F index, (refl, tt)))
  operation_inner F n (Call callee parenthesis arguments) = (form_inner F callee, operands_inner F arguments (call_itself (F.has_body n) n) (call_inner (F.has_body n) n))
  operation_inner F n (Member x member) = (form_inner F x, (refl, tt))
  operation_inner F n (Arrow x member) = (form_inner F x, (refl, (refl, tt)))
  operation_inner F n (CompoundLit of braces) = (form_inner F braces, (refl, tt))
  operation_inner F n (Unary op x) = unary_inner n op (form_of F x) (form_inner F x)
  operation_inner F n (SizeofType of) = (refl, tt)
  operation_inner F n (Cast to x) = (form_inner F x, (refl, tt))
  operation_inner F n (Binary op x y) = binary_inner n op (is_zero y) (form_of F x) (form_of F y) (form_inner F x) (form_inner F y)
  operation_inner F n (Cond x y z) = (form_inner F x, form_inner F y, form_inner F z, (refl, tt))
  operation_inner F n (Assign op x y) = (form_inner F x, (form_inner F y, (refl, tt)))

  initializer_inner : (F : Facts) (n : Node) (k : InitializerShape) → IsInnerForm (initializer_form F n k)
  initializer_inner F n (Init name declarator initial) = (form_inner F initial, (refl, tt))
  initializer_inner F n (Braces elements comma) = operands_inner F elements _ tt
  initializer_inner F n (Designated designators initial) = form_inner F initial

  operands_inner : (F : Facts) (ns : Nodes) (r : Row) → IsInnerRow r → IsInnerRow (operands F ns r)
  operands_inner F no_more r h = h
  operands_inner F (more n ns) r h = (form_inner F n, operands_inner F ns r h)

maybe_row_inner : (F : Facts) (e : MaybeNode) → IsInnerRow (maybe_row F e)
maybe_row_inner F absent = tt
maybe_row_inner F (present e) = (form_inner F e, tt)

maybe_form_inner : (F : Facts) (e : MaybeNode) → IsInnerMaybe (maybe_form F e)
maybe_form_inner F absent = tt
maybe_form_inner F (present e) = form_inner F e

declared_inner : (x : Option Variable) (r : Row) → IsInnerRow r → IsInnerRow (declared_then x r)
declared_inner None r h = h
declared_inner (Some x) r h = (refl, h)

initialized_inner : (x : Option Variable) (e : Form) (r : Row) → IsInnerForm e → IsInnerRow r → IsInnerRow (initialized_then x e r)
initialized_inner None e r k h = h
initialized_inner (Some x) e r k h = (refl, (k, h))

declarator_inner : (F : Facts) (n : Node) (r : Row) → IsInnerRow r → IsInnerRow (declarator_then F n r)
declarator_inner F (node i p (Initializer (Init name declarator initial))) r h =
    initialized_inner (F.variable_of declarator) (form_of F (node i p (Initializer (Init name declarator initial)))) r (form_inner F (node i p (Initializer (Init name declarator initial)))) h
declarator_inner F (node i p (Declarator k)) r h = declared_inner (F.variable_of (node i p (Declarator k))) r h
declarator_inner F _ r h = h

declarators_inner : (F : Facts) (ns : Nodes) → IsInnerRow (declarators_row F ns)
declarators_inner F no_more = tt
declarators_inner F (more n ns) = declarator_inner F n (declarators_row F ns) (declarators_inner F ns)

outer_inner : (F : Facts) (k : OuterShape) → IsInnerRow (outer_row F k)
outer_inner F (Declaration specs declarators) = declarators_inner F declarators
outer_inner F (Function specs declarator body) = tt
outer_inner F Empty = tt

declaration_inner : (F : Facts) (n : Node) → IsInnerRow (declaration_row F n)
declaration_inner F (node _ _ (Outer k)) = outer_inner F k
declaration_inner F _ = tt

mutual
  pub flow_exits_last : (F : Facts) (f : Place) (n : Node) → ExitsLast (flow_of F f n)
  flow_exits_last F f (node i p (Outer k)) = outer_inner F k
  flow_exits_last F f (node i p (Statement k)) = statement_exits_last F f k
  flow_exits_last F f (node i p (Iteration k)) = iteration_exits_last F f k
  flow_exits_last F f (node i p (Jump k)) = jump_exits_last F f p k
  flow_exits_last F f (node i p (Primary k)) = tt
  flow_exits_last F f (node i p (Operation k)) = tt
  flow_exits_last F f (node i p (Initializer k)) = tt
  flow_exits_last F f (node i p (Specifier k)) = tt
  flow_exits_last F f (node i p (Declarator k)) = tt
  flow_exits_last F f (node i p (Part k)) = tt

  statement_exits_last : (F : Facts) (f : Place) (k : StatementShape) → ExitsLast (statement_flow F f k)
  statement_exits_last F f (Block items) = flows_exit_last F f items
  statement_exits_last F f (ExprStmt value) = maybe_row_inner F value
  statement_exits_last F f (If condition then otherwise) = (form_inner F condition, flow_exits_last F f then, maybe_exits_last F f otherwise)
  statement_exits_last F f (Switch value body) = ((form_inner F value, tt), flow_exits_last F f body)
  statement_exits_last F f (Case value body) = flow_exits_last F f body
  statement_exits_last F f (Default body) = flow_exits_last F f body
  statement_exits_last F f (Label label body) = flow_exits_last F f body

  iteration_exits_last : (F : Facts) (f : Place) (k : IterationShape) → ExitsLast (iteration_flow F f k)
  iteration_exits_last F f (While condition body) = (form_inner F condition, flow_exits_last F f body)
  iteration_exits_last F f (Do body condition) = (flow_exits_last F f body, form_inner F condition)
  iteration_exits_last F f (For first condition step body) = (maybe_row_inner F first, maybe_form_inner F condition, maybe_row_inner F step, flow_exits_last F f body)
  iteration_exits_last F f (ForDeclaration declaration condition step body) = (declaration_inner F declaration, maybe_form_inner F condition, maybe_row_inner F step, flow_exits_last F f body)

  jump_exits_last : (F : Facts) (f p : Place) (k : JumpShape) → ExitsLast (jump_flow F f p k)
  jump_exits_last F f p (Goto label) = tt
  jump_exits_last F f p Continue = tt
  jump_exits_last F f p Break = tt
  jump_exits_last F f p (Return value) = (maybe_row_inner F value, refl)

  maybe_exits_last : (F : Facts) (f : Place) (n : MaybeNode) → ExitsLast (maybe_flow F f n)
  maybe_exits_last F f absent = tt
  maybe_exits_last F f (present s) = flow_exits_last F f s

  flows_exit_last : (F : Facts) (f : Place) (ns : Nodes) → ExitsLastIn (flows_of F f ns)
  flows_exit_last F f no_more = tt
  flows_exit_last F f (more s ss) = (flow_exits_last F f s, flows_exit_last F f ss)
