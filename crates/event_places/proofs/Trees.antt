-- Each item in the text of a tree is about a tree that stands in it: what holds of each of its nodes holds of those of the item.
use Rattle.std.proofs.Common.{◌≡◌, ℕ, Bool, true, false, Option, None, Some, refl}
use Rattle.c_tree.specs.PathSubjects.Subjects.{first_of}
use Rattle.c_tree.specs.declared.operator.BinaryOp.{BinaryOp}
use Rattle.c_tree.specs.declared.operator.BinaryOp.TheVariants as binary
use Rattle.c_tree.specs.declared.operator.UnaryOp.{UnaryOp}
use Rattle.c_tree.specs.declared.operator.UnaryOp.TheVariants as unary
use Rattle.c_tree.specs.declared.place.Place.{Place}
use Rattle.c_tree.specs.Node.{Node, node, Primary, Operation, Initializer, Specifier, Declarator, Part, Outer, Statement, Iteration, Jump, PrimaryShape, OperationShape, InitializerShape, OuterShape, StatementShape, IterationShape, JumpShape, Ident, Constant, StrConst, Paren, VaArg, Offsetof, Hole, Index, Call, Member, Arrow, CompoundLit, Unary, SizeofType, Cast, Binary, Cond, Assign, Init, Braces, Designated, Declaration, Function, Empty, Block, ExprStmt, If, Switch, Case, Default, Label, While, Do, For, ForDeclaration, Goto, Continue, Break, Return, MaybeNode, absent, present, Nodes, no_more, more}
use Rattle.path_theory.specs.Marks.{EventMark, CallMark}
use Rattle.flow_graph.specs.CPaths.Events.{Evaluated, Declared, Branched, Exited, Item, Variable}
use Rattle.flow_graph.specs.CPaths.Facts.{Facts}
use Rattle.flow_graph.specs.CPaths.Forms.{Form, Row, done}
use Rattle.flow_graph.specs.CPaths.TreeForms.{form_of, primary_form, operation_form, initializer_form, operands, unary_form, binary_form, is_zero, call_itself}
use Rattle.flow_graph.specs.CPaths.TreeFlow.{flow_of, statement_flow, iteration_flow, jump_flow, maybe_flow, flows_of, maybe_row, maybe_form, declared_then, initialized_then, declarator_then, declarators_row, outer_row, declaration_row}
use Rattle.type_rules.specs.Parts.{Slot, plain, declared_by, none, part, flat, primary_parts, operation_parts, initializer_parts, outer_parts, statement_parts, iteration_parts, jump_parts, maybe, each}
use Rattle.event_places.proofs.EachNode.{Everywhere, InParts, OfSubject, behind-each, behind-maybe, maybe-alone}
use Rattle.event_places.proofs.Items.{EachInForm, EachInRow, EachInMaybe, EachInFlow, EachInFlows}

-- each node of a tree that is evaluated, branched on or called has the property, and so has one at which an exit stands; the variable of a
-- declaration has its own
abbrev pub Stood : (Node → Type 0) → (Variable → Type 0) → Item → Type 0
Stood Q V (EventMark (Evaluated s)) = OfSubject Q s
Stood Q V (EventMark (Declared x)) = V x
Stood Q V (EventMark (Branched n t)) = Everywhere Q (flat n)
Stood Q V (EventMark (Exited function place)) = (n : Node) × (first_of n ≡ place) × Q n
Stood Q V (CallMark n) = Everywhere Q (flat n)

module _ (Q : Node → Type 0) (V : Variable → Type 0) (F : Facts) (variables : (d : Node) (x : Variable) → F.variable_of d ≡ Some x → V x) where
  abbrev InForm : Form → Type 0
  InForm x = EachInForm (Stood Q V) x

  abbrev InRow : Row → Type 0
  InRow r = EachInRow (Stood Q V) r

  unary-all : (n : Node) (op : UnaryOp) (x : Form) → Everywhere Q (flat n) → InForm x → InForm (unary_form n op x)
  unary-all n unary.PostInc x o h = (λ t. o, (h, (o, tt)))
  unary-all n unary.PostDec x o h = (λ t. o, (h, (o, tt)))
  unary-all n unary.PreInc x o h = (λ t. o, (h, (o, tt)))
  unary-all n unary.PreDec x o h = (λ t. o, (h, (o, tt)))
  unary-all n unary.AddressOf x o h = (λ t. o, (h, (o, tt)))
  unary-all n unary.Deref x o h = (λ t. o, (h, (o, tt)))
  unary-all n unary.Plus x o h = (λ t. o, (h, (o, tt)))
  unary-all n unary.Minus x o h = (λ t. o, (h, (o, tt)))
  unary-all n unary.BitNot x o h = (λ t. o, (h, (o, tt)))
  unary-all n unary.Not x o h = (h, (o, tt))
  unary-all n unary.Sizeof x o h = (λ t. o, (o, tt))

  binary-all : (n : Node) (op : BinaryOp) (zero : Bool) (x y : Form) → Everywhere Q (flat n) → InForm x → InForm y → InForm (binary_form n op zero x y)
  binary-all n binary.Multiply zero x y o h k = (λ t. o, (h, (k, (o, tt))))
  binary-all n binary.Divide zero x y o h k = (λ t. o, (h, (k, (o, tt))))
  binary-all n binary.Remainder zero x y o h k = (λ t. o, (h, (k, (o, tt))))
  binary-all n binary.Add zero x y o h k = (λ t. o, (h, (k, (o, tt))))
  binary-all n binary.Subtract zero x y o h k = (λ t. o, (h, (k, (o, tt))))
  binary-all n binary.ShiftLeft zero x y o h k = (λ t. o, (h, (k, (o, tt))))
  binary-all n binary.ShiftRight zero x y o h k = (λ t. o, (h, (k, (o, tt))))
  binary-all n binary.Less zero x y o h k = (λ t. o, (h, (k, (o, tt))))
  binary-all n binary.Greater zero x y o h k = (λ t. o, (h, (k, (o, tt))))
  binary-all n binary.LessEqual zero x y o h k = (λ t. o, (h, (k, (o, tt))))
  binary-all n binary.GreaterEqual zero x y o h k = (λ t. o, (h, (k, (o, tt))))
  binary-all n binary.Equal true x y o h k = (h, (k, (o, tt)))
  binary-all n binary.Equal false x y o h k = (λ t. o, (h, (k, (o, tt))))
  binary-all n binary.NotEqual true x y o h k = (h, (k, (o, tt)))
  binary-all n binary.NotEqual false x y o h k = (λ t. o, (h, (k, (o, tt))))
  binary-all n binary.BitAnd zero x y o h k = (λ t. o, (h, (k, (o, tt))))
  binary-all n binary.BitXor zero x y o h k = (λ t. o, (h, (k, (o, tt))))
  binary-all n binary.BitOr zero x y o h k = (λ t. o, (h, (k, (o, tt))))
  binary-all n binary.LogAnd zero x y o h k = (h, k, (o, tt))
  binary-all n binary.LogOr zero x y o h k = (h, k, (o, tt))
  binary-all n binary.Comma zero x y o h k = (h, k, (o, tt))

  call-all : (b : Bool) (n : Node) → Everywhere Q (flat n) → InRow (call_itself b n)
  call-all true n o = (o, (o, tt))
  call-all false n o = (o, tt)

  mutual
    form-all : (n : Node) → Everywhere Q (flat n) → InForm (form_of F n)
    form-all (node i p (Primary k)) h = primary-all (node i p (Primary k)) k h h.1
    form-all (node i p (Operation k)) h = operation-all (node i p (Operation k)) k h h.1
    form-all (node i p (Initializer k)) h = initializer-all (node i p (Initializer k)) k h h.1
    form-all (node i p (Specifier k)) h = (λ t. h, tt)
    form-all (node i p (Declarator k)) h = (λ t. h, tt)
    form-all (node i p (Part k)) h = (λ t. h, tt)
    form-all (node i p (Outer k)) h = (λ t. h, tt)
    form-all (node i p (Statement k)) h = (λ t. h, tt)
    form-all (node i p (Iteration k)) h = (λ t. h, tt)
    form-all (node i p (Jump k)) h = (λ t. h, tt)

    primary-all : (n : Node) (k : PrimaryShape) → Everywhere Q (flat n) → InParts Q (primary_parts k) → InForm (primary_form F n k)
    primary-all n (Ident name) o h = (λ t. o, (o, tt))
    primary-all n (Constant token) o h = (λ t. o, (o, tt))
    primary-all n (StrConst literals) o h = (λ t. o, (o, tt))
    primary-all n (Paren inner) o h = form-all inner h.0
    primary-all n (VaArg list of) o h = (λ t. o, (form-all list h.0, (o, tt)))
    primary-all n (Offsetof of member path) o h = (λ t. o, (o, tt))
    primary-all n (Hole number) o h = (λ t. o, (o, tt))

    operation-all : (n : Node) (k : OperationShape) → Everywhere Q (flat n) → InParts Q (operation_parts k) → InForm (operation_form F n k)
    operation-all n (Index array index) o h = (λ t. o, (form-all array h.0, (form-all index h.1.0, (o, tt))))
    operation-all n (Call callee parenthesis arguments) o h = (λ t. o, (form-all callee h.0, operands-all plain arguments (call_itself (F.has_body n) n) h.1 (call-all (F.has_body n) n o)))
    operation-all n (Member x member) o h = (λ t. o, (form-all x h.0, (o, tt)))
    operation-all n (Arrow x member) o h = (λ t. o, (form-all x h.0, (h.0, (o, tt))))
    operation-all n (CompoundLit of braces) o h = (λ t. o, (form-all braces h.1.0, (o, tt)))
    operation-all n (Unary op x) o h = unary-all n op (form_of F x) o (form-all x h.0)
    operation-all n (SizeofType of) o h = (λ t. o, (o, tt))
    operation-all n (Cast to x) o h = (λ t. o, (form-all x h.1.0, (o, tt)))
    operation-all n (Binary op x y) o h = binary-all n op (is_zero y) (form_of F x) (form_of F y) o (form-all x h.0) (form-all y h.1.0)
    operation-all n (Cond x y z) o h = (form-all x h.0, form-all y h.1.0, form-all z h.1.1.0, (o, tt))
    operation-all n (Assign op x y) o h = (λ t. o, (form-all x h.0, (form-all y h.1.0, (o, tt))))

    initializer-all : (n : Node) (k : InitializerShape) → Everywhere Q (flat n) → InParts Q (initializer_parts k) → InForm (initializer_form F n k)
    initializer-all n (Init name declarator initial) o h = (λ t. o, (form-all initial h.1.1.0, (o, tt)))
    initializer-all n (Braces elements comma) o h = (λ t. o, operands-all plain elements done h tt)
    initializer-all n (Designated designators initial) o h = let last = behind-each Q plain designators (part plain (flat initial) none) h in form-all initial last.0

    operands-all : (slot : Slot) (ns : Nodes) (r : Row) → InParts Q (each slot ns none) → InRow r → InRow (operands F ns r)
    operands-all slot no_more r h k = k
    operands-all slot (more n ns) r h k = (form-all n h.0, operands-all slot ns r h.1 k)

  maybe-row : (m : MaybeNode) → InParts Q (maybe plain m none) → InRow (maybe_row F m)
  maybe-row absent h = tt
  maybe-row (present e) h = (form-all e h.0, tt)

  maybe-form : (m : MaybeNode) → InParts Q (maybe plain m none) → EachInMaybe (Stood Q V) (maybe_form F m)
  maybe-form absent h = tt
  maybe-form (present e) h = form-all e h.0

  -- declarations
  declared-all : (o : Option Variable) (r : Row) → ((x : Variable) → o ≡ Some x → V x) → InRow r → InRow (declared_then o r)
  declared-all None r v k = k
  declared-all (Some x) r v k = (v x refl, k)

  initialized-all : (o : Option Variable) (e : Form) (r : Row) → ((x : Variable) → o ≡ Some x → V x) → InForm e → InRow r → InRow (initialized_then o e r)
  initialized-all None e r v h k = k
  initialized-all (Some x) e r v h k = (v x refl, (h, k))

  declarator-all : (n : Node) (r : Row) → Everywhere Q (flat n) → InRow r → InRow (declarator_then F n r)
  declarator-all (node i p (Initializer (Init name declarator initial))) r h k =
      initialized-all (F.variable_of declarator) (form_of F (node i p (Initializer (Init name declarator initial)))) r (λ x e. variables declarator x e) (form-all (node i p (Initializer (Init name declarator initial))) h) k
  declarator-all (node i p (Declarator s)) r h k = declared-all (F.variable_of (node i p (Declarator s))) r (λ x e. variables (node i p (Declarator s)) x e) k
  declarator-all (node i p (Initializer (Braces elements comma))) r h k = k
  declarator-all (node i p (Initializer (Designated designators initial))) r h k = k
  declarator-all (node i p (Primary s)) r h k = k
  declarator-all (node i p (Operation s)) r h k = k
  declarator-all (node i p (Specifier s)) r h k = k
  declarator-all (node i p (Part s)) r h k = k
  declarator-all (node i p (Outer s)) r h k = k
  declarator-all (node i p (Statement s)) r h k = k
  declarator-all (node i p (Iteration s)) r h k = k
  declarator-all (node i p (Jump s)) r h k = k

  declarators-all : (slot : Slot) (ns : Nodes) → InParts Q (each slot ns none) → InRow (declarators_row F ns)
  declarators-all slot no_more h = tt
  declarators-all slot (more n ns) h = declarator-all n (declarators_row F ns) h.0 (declarators-all slot ns h.1)

  outer-all : (k : OuterShape) → InParts Q (outer_parts k) → InRow (outer_row F k)
  outer-all (Declaration specs declarators) h = declarators-all (declared_by specs) declarators h.1
  outer-all (Function specs declarator body) h = tt
  outer-all Empty h = tt

  declaration-all : (n : Node) → Everywhere Q (flat n) → InRow (declaration_row F n)
  declaration-all (node i p (Outer k)) h = outer-all k h.1
  declaration-all (node i p (Primary k)) h = tt
  declaration-all (node i p (Operation k)) h = tt
  declaration-all (node i p (Initializer k)) h = tt
  declaration-all (node i p (Specifier k)) h = tt
  declaration-all (node i p (Declarator k)) h = tt
  declaration-all (node i p (Part k)) h = tt
  declaration-all (node i p (Statement k)) h = tt
  declaration-all (node i p (Iteration k)) h = tt
  declaration-all (node i p (Jump k)) h = tt

  -- the condition, the step and the body of a loop
  turn-parts : (condition step : MaybeNode) (body : Node) → InParts Q (maybe plain condition (maybe plain step (part plain (flat body) none)))
      → InParts Q (maybe plain condition none) × InParts Q (maybe plain step none) × Everywhere Q (flat body)
  turn-parts condition step body h =
      let in_body = part plain (flat body) none in
      let behind = behind-maybe Q plain condition (maybe plain step in_body) h in
      let last = behind-maybe Q plain step in_body behind in
      (maybe-alone Q plain condition (maybe plain step in_body) h, maybe-alone Q plain step in_body behind, last.0)

  -- statements of the function that is defined at this place
  module _ (f : Place) where
    mutual
      pub flow-all : (n : Node) → Everywhere Q (flat n) → EachInFlow (Stood Q V) (flow_of F f n)
      flow-all (node i p (Outer k)) h = outer-all k h.1
      flow-all (node i p (Statement k)) h = statement-all k h.1
      flow-all (node i p (Iteration k)) h = iteration-all k h.1
      flow-all (node i p (Jump k)) h = jump-all i p k h.0 h.1
      flow-all (node i p (Primary k)) h = tt
      flow-all (node i p (Operation k)) h = tt
      flow-all (node i p (Initializer k)) h = tt
      flow-all (node i p (Specifier k)) h = tt
      flow-all (node i p (Declarator k)) h = tt
      flow-all (node i p (Part k)) h = tt

      statement-all : (k : StatementShape) → InParts Q (statement_parts k) → EachInFlow (Stood Q V) (statement_flow F f k)
      statement-all (Block items) h = flows-all plain items h
      statement-all (ExprStmt value) h = maybe-row value h
      statement-all (If condition then otherwise) h = (form-all condition h.0, flow-all then h.1.0, else-all otherwise h.1.1)
      statement-all (Switch value body) h = ((form-all value h.0, tt), flow-all body h.1.0)
      statement-all (Case value body) h = flow-all body h.1.0
      statement-all (Default body) h = flow-all body h.0
      statement-all (Label label body) h = flow-all body h.0

      iteration-all : (k : IterationShape) → InParts Q (iteration_parts k) → EachInFlow (Stood Q V) (iteration_flow F f k)
      iteration-all (While condition body) h = (form-all condition h.0, flow-all body h.1.0)
      iteration-all (Do body condition) h = (form-all condition h.1.0, flow-all body h.0)
      iteration-all (For first condition step body) h =
          let turn = maybe plain condition (maybe plain step (part plain (flat body) none)) in
          let t = turn-parts condition step body (behind-maybe Q plain first turn h) in
          (maybe-row first (maybe-alone Q plain first turn h), maybe-form condition t.0, maybe-row step t.1, flow-all body t.2)
      iteration-all (ForDeclaration declaration condition step body) h =
          let t = turn-parts condition step body h.1 in (declaration-all declaration h.0, maybe-form condition t.0, maybe-row step t.1, flow-all body t.2)

      jump-all : (i : ℕ) (p : Place) (k : JumpShape) → Q (node i p (Jump k)) → InParts Q (jump_parts k) → EachInFlow (Stood Q V) (jump_flow F f p k)
      jump-all i p (Goto label) o h = tt
      jump-all i p Continue o h = tt
      jump-all i p Break o h = tt
      jump-all i p (Return value) o h = ((node i p (Jump (Return value)), refl, o), maybe-row value h)

      else-all : (m : MaybeNode) → InParts Q (maybe plain m none) → EachInFlow (Stood Q V) (maybe_flow F f m)
      else-all absent h = tt
      else-all (present s) h = flow-all s h.0

      flows-all : (slot : Slot) (ns : Nodes) → InParts Q (each slot ns none) → EachInFlows (Stood Q V) (flows_of F f ns)
      flows-all slot no_more h = tt
      flows-all slot (more n ns) h = (flow-all n h.0, flows-all slot ns h.1)
