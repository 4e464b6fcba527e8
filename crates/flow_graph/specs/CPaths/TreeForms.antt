-- The form of each expression of C.
-- A tree is evaluated behind its operands (ISO 9899:1990, 6.3). Nothing is evaluated in `sizeof` and `__builtin_offsetof`, in
-- type names, array bounds and the indices of designators. Parentheses are their inside, and braces their elements in order.
use Rattle.std.specs.Prelude.{Bool, true, false, ◌==◌}
use Rattle.c_tree.specs.declared.operator.BinaryOp.{BinaryOp}
use Rattle.c_tree.specs.declared.operator.BinaryOp.TheVariants as binary
use Rattle.c_tree.specs.declared.operator.UnaryOp.{UnaryOp}
use Rattle.c_tree.specs.declared.operator.UnaryOp.TheVariants as unary
use Rattle.c_tree.specs.declared.token.TokenKind.{TokenKind}
use Rattle.c_tree.specs.declared.token.TokenKind.TheVariants as kinds
use Rattle.c_tree.specs.Node.{Node, node, Primary, Operation, Initializer, Specifier, Declarator, Part, Outer, Statement, Iteration, Jump, PrimaryShape, OperationShape, InitializerShape, Ident, Constant, StrConst, Paren, VaArg, Offsetof, Hole, Index, Call, Member, Arrow, CompoundLit, Unary, SizeofType, Cast, Binary, Cond, Assign, Init, Braces, Designated, Nodes, no_more, more}
use Rattle.flow_graph.specs.CPaths.Events.{evaluated, dereferenced, called}
use Rattle.flow_graph.specs.CPaths.Facts.{Facts}
use Rattle.flow_graph.specs.CPaths.Forms.{Form, Plain, Inverts, Keeps, Both, Any, Chooses, Follows, Row, done, operand, item}

abbrev pub is_zero_kind : TokenKind → Bool
is_zero_kind (kinds.Int value _ _ _) = value == 0
is_zero_kind _ = false

-- the integer constant zero, under any parentheses and casts
abbrev pub is_zero : Node → Bool
is_zero (node _ _ (Primary (Constant token))) = is_zero_kind token.kind
is_zero (node _ _ (Primary (Paren inner))) = is_zero inner
is_zero (node _ _ (Operation (Cast to inner))) = is_zero inner
is_zero _ = false

-- the tree itself
abbrev pub itself : Node → Row
itself n = item (evaluated n) done

-- a call, and its mark if its callee has a body
abbrev pub call_itself : Bool → Node → Row
call_itself true n = item (evaluated n) (item (called n) done)
call_itself false n = itself n

-- of a tree with an operator before or behind an operand of this form
abbrev pub unary_form : Node → UnaryOp → Form → Form
unary_form n unary.Not x = Inverts x (itself n)
unary_form n unary.Sizeof x = Plain n (itself n)
unary_form n op x = Plain n (operand x (itself n))

-- of a tree with an operator between operands of these forms; the truth says whether the right one is the constant zero
abbrev pub binary_form : Node → BinaryOp → Bool → Form → Form → Form
binary_form n binary.LogAnd zero x y = Both x y (itself n)
binary_form n binary.LogOr zero x y = Any x y (itself n)
binary_form n binary.Comma zero x y = Follows x y (itself n)
binary_form n binary.Equal true x y = Inverts x (operand y (itself n))
binary_form n binary.NotEqual true x y = Keeps x (operand y (itself n))
binary_form n op zero x y = Plain n (operand x (operand y (itself n)))

abbrev mutual
  pub form_of : Facts → Node → Form
  form_of F (node i p (Primary k)) = primary_form F (node i p (Primary k)) k
  form_of F (node i p (Operation k)) = operation_form F (node i p (Operation k)) k
  form_of F (node i p (Initializer k)) = initializer_form F (node i p (Initializer k)) k
  form_of F (node i p (Specifier k)) = Plain (node i p (Specifier k)) done
  form_of F (node i p (Declarator k)) = Plain (node i p (Declarator k)) done
  form_of F (node i p (Part k)) = Plain (node i p (Part k)) done
  form_of F (node i p (Outer k)) = Plain (node i p (Outer k)) done
  form_of F (node i p (Statement k)) = Plain (node i p (Statement k)) done
  form_of F (node i p (Iteration k)) = Plain (node i p (Iteration k)) done
  form_of F (node i p (Jump k)) = Plain (node i p (Jump k)) done

  pub primary_form : Facts → Node → PrimaryShape → Form
  primary_form F n (Ident name) = Plain n (itself n)
  primary_form F n (Constant token) = Plain n (itself n)
  primary_form F n (StrConst literals) = Plain n (itself n)
  primary_form F n (Paren inner) = form_of F inner
  primary_form F n (VaArg list of) = Plain n (operand (form_of F list) (itself n))
  primary_form F n (Offsetof of member path) = Plain n (itself n)
  primary_form F n (Hole number) = Plain n (itself n)

  pub operation_form : Facts → Node → OperationShape → Form
  operation_form F n (Index array index) = Plain n (operand (form_of F array) (operand (form_of F index) (itself n)))
  operation_form F n (Call callee parenthesis arguments) = Plain n (operand (form_of F callee) (operands F arguments (call_itself (F.has_body n) n)))
  operation_form F n (Member x member) = Plain n (operand (form_of F x) (itself n))
  operation_form F n (Arrow x member) = Plain n (operand (form_of F x) (item (dereferenced x) (itself n)))
  operation_form F n (CompoundLit of braces) = Plain n (operand (form_of F braces) (itself n))
  operation_form F n (Unary op x) = unary_form n op (form_of F x)
  operation_form F n (SizeofType of) = Plain n (itself n)
  operation_form F n (Cast to x) = Plain n (operand (form_of F x) (itself n))
  operation_form F n (Binary op x y) = binary_form n op (is_zero y) (form_of F x) (form_of F y)
  operation_form F n (Cond x y z) = Chooses (form_of F x) (form_of F y) (form_of F z) (itself n)
  operation_form F n (Assign op x y) = Plain n (operand (form_of F x) (operand (form_of F y) (itself n)))

  pub initializer_form : Facts → Node → InitializerShape → Form
  initializer_form F n (Init name declarator initial) = Plain n (operand (form_of F initial) (itself n))
  initializer_form F n (Braces elements comma) = Plain n (operands F elements done)
  initializer_form F n (Designated designators initial) = form_of F initial

  -- these trees in order, and then the row
  pub operands : Facts → Nodes → Row → Row
  operands F no_more r = r
  operands F (more n ns) r = operand (form_of F n) (operands F ns r)
