-- The flow of control of each statement of C, and what a declaration gives.
use Rattle.std.specs.Prelude.{Option, None, Some}
use Rattle.c_tree.specs.declared.place.Place.{Place}
use Rattle.c_tree.specs.Node.{Node, node, Primary, Operation, Initializer, Specifier, Declarator, Part, Outer, Statement, Iteration, Jump, OuterShape, StatementShape, IterationShape, JumpShape, Init, Declaration, Function, Empty, Block, ExprStmt, If, Switch, Case, Default, Label, While, Do, For, ForDeclaration, Goto, Continue, Break, Return, MaybeNode, absent, present, Nodes, no_more, more}
use Rattle.flow_graph.specs.CPaths.Events.{Variable, declared, Exited}
use Rattle.flow_graph.specs.CPaths.Facts.{Facts}
use Rattle.flow_graph.specs.CPaths.Forms.{Form, Row, done, operand, item}
use Rattle.flow_graph.specs.CPaths.Flow.{Flow, Flows, no_flows, flows}
use Rattle.flow_graph.specs.CPaths.Flow as flow
use Rattle.flow_graph.specs.CPaths.TreeForms.{form_of}

-- an expression that may be left out
abbrev pub maybe_row : Facts → MaybeNode → Row
maybe_row F absent = done
maybe_row F (present e) = operand (form_of F e) done

abbrev pub maybe_form : Facts → MaybeNode → Option Form
maybe_form F absent = None
maybe_form F (present e) = Some (form_of F e)

-- a variable is declared where it has automatic storage, and then the row
abbrev pub declared_then : Option Variable → Row → Row
declared_then None r = r
declared_then (Some x) r = item (declared x) r

-- the same with this initializer, which is evaluated behind the declaration
abbrev pub initialized_then : Option Variable → Form → Row → Row
initialized_then None e r = r
initialized_then (Some x) e r = item (declared x) (operand e r)

-- a declarator, with or without an initializer, and then the row
abbrev pub declarator_then : Facts → Node → Row → Row
declarator_then F (node i p (Initializer (Init name declarator initial))) r = initialized_then (F.variable_of declarator) (form_of F (node i p (Initializer (Init name declarator initial)))) r
declarator_then F (node i p (Declarator k)) r = declared_then (F.variable_of (node i p (Declarator k))) r
declarator_then F _ r = r

-- the declarators of a declaration, in order
abbrev pub declarators_row : Facts → Nodes → Row
declarators_row F no_more = done
declarators_row F (more n ns) = declarator_then F n (declarators_row F ns)

abbrev pub outer_row : Facts → OuterShape → Row
outer_row F (Declaration specs declarators) = declarators_row F declarators
outer_row F (Function specs declarator body) = done
outer_row F Empty = done

-- a declaration, here that in the head of a `for`
abbrev pub declaration_row : Facts → Node → Row
declaration_row F (node _ _ (Outer k)) = outer_row F k
declaration_row F _ = done

-- of a statement or a declaration in the function that is defined at this place
abbrev mutual
  pub flow_of : Facts → Place → Node → Flow
  flow_of F f (node i p (Outer k)) = flow.Does (outer_row F k)
  flow_of F f (node i p (Statement k)) = statement_flow F f k
  flow_of F f (node i p (Iteration k)) = iteration_flow F f k
  flow_of F f (node i p (Jump k)) = jump_flow F f p k
  flow_of F f (node i p (Primary k)) = flow.Does done
  flow_of F f (node i p (Operation k)) = flow.Does done
  flow_of F f (node i p (Initializer k)) = flow.Does done
  flow_of F f (node i p (Specifier k)) = flow.Does done
  flow_of F f (node i p (Declarator k)) = flow.Does done
  flow_of F f (node i p (Part k)) = flow.Does done

  pub statement_flow : Facts → Place → StatementShape → Flow
  statement_flow F f (Block items) = flow.Block (flows_of F f items)
  statement_flow F f (ExprStmt value) = flow.Does (maybe_row F value)
  statement_flow F f (If condition then otherwise) = flow.If (form_of F condition) (flow_of F f then) (maybe_flow F f otherwise)
  statement_flow F f (Switch value body) = flow.Switch (operand (form_of F value) done) (flow_of F f body)
  statement_flow F f (Case value body) = flow.Case (flow_of F f body)
  statement_flow F f (Default body) = flow.Default (flow_of F f body)
  statement_flow F f (Label label body) = flow.Label label.name (flow_of F f body)

  pub iteration_flow : Facts → Place → IterationShape → Flow
  iteration_flow F f (While condition body) = flow.While (form_of F condition) (flow_of F f body)
  iteration_flow F f (Do body condition) = flow.Do (flow_of F f body) (form_of F condition)
  iteration_flow F f (For first condition step body) = flow.For (maybe_row F first) (maybe_form F condition) (maybe_row F step) (flow_of F f body)
  iteration_flow F f (ForDeclaration declaration condition step body) = flow.For (declaration_row F declaration) (maybe_form F condition) (maybe_row F step) (flow_of F f body)

  -- the place is that of the statement's first word
  pub jump_flow : Facts → Place → Place → JumpShape → Flow
  jump_flow F f p (Goto label) = flow.Goto label.name
  jump_flow F f p Continue = flow.Continue
  jump_flow F f p Break = flow.Break
  jump_flow F f p (Return value) = flow.Return (maybe_row F value) (Exited f p)

  pub maybe_flow : Facts → Place → MaybeNode → Flow
  maybe_flow F f absent = flow.Does done
  maybe_flow F f (present s) = flow_of F f s

  pub flows_of : Facts → Place → Nodes → Flows
  flows_of F f no_more = no_flows
  flows_of F f (more s ss) = flows (flow_of F f s) (flows_of F f ss)
