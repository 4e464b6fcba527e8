-- The node that a tree of the program is.
use Rattle.std.specs.Prelude.{List, [], ◌∷◌, Option, None, Some}
use Rattle.std.specs.Borrow.{Bor}
use Rattle.std.specs.Option.{option_map}
use Rattle.c_tree.specs.declared.tree.Tree.{Tree}
use Rattle.c_tree.specs.declared.tree.Trees.{Trees, Trees', Row_of-Tree, end_of-Tree, more_of-Tree}
use Rattle.c_tree.specs.declared.tree.Kind as kinds
use Rattle.c_tree.specs.declared.expression.Primary as primary
use Rattle.c_tree.specs.declared.expression.Operation as operation
use Rattle.c_tree.specs.declared.declaration.Initializer as initializer
use Rattle.c_tree.specs.declared.declaration.Specifier as specifier
use Rattle.c_tree.specs.declared.declaration.Declarator as declarator
use Rattle.c_tree.specs.declared.declaration.Part as part
use Rattle.c_tree.specs.declared.declaration.Outer as outer
use Rattle.c_tree.specs.declared.statement.Statement as statement
use Rattle.c_tree.specs.declared.statement.Iteration as iteration
use Rattle.c_tree.specs.declared.statement.Jump as jump
use Rattle.c_tree.specs.declared.declaration.Part.{Held-Part-ArrayBound-1, None', Some'}
use Rattle.c_tree.specs.declared.token.Token.{Token}
use Rattle.c_tree.specs.Node.{Node, node, Shape, Primary, Operation, Initializer, Specifier, Declarator, Part, Outer, Statement, Iteration, Jump, PrimaryShape, OperationShape, InitializerShape, SpecifierShape, DeclaratorShape, PartShape, OuterShape, StatementShape, IterationShape, JumpShape, Ident, Constant, StrConst, Paren, VaArg, Offsetof, Hole, Index, Call, Member, Arrow, CompoundLit, Unary, SizeofType, Cast, Binary, Cond, Assign, Init, Braces, Designated, TypeName, Specs, StructTag, StructBody, EnumTag, EnumBody, StructDeclaration, BitField, Param, Named, Nested, Unnamed, SpecWord, ArrayBound, VoidParams, Params, Enumerator, MemberDesignator, IndexDesignator, Declaration, Function, Empty, Block, ExprStmt, If, Switch, Case, Default, Label, While, Do, For, ForDeclaration, Goto, Continue, Break, Return, MaybeNode, absent, present, Nodes, no_more, more}

-- a token that may be missing
abbrev pub maybe_token : Option (Bor Token) → Option Token
maybe_token o = option_map (λ t. t.now) o

abbrev mutual
  pub shape_of : kinds.Kind → Shape
  shape_of (kinds.Primary k) = Primary (primary_shape k)
  shape_of (kinds.Operation k) = Operation (operation_shape k)
  shape_of (kinds.Initializer k) = Initializer (initializer_shape k)
  shape_of (kinds.Specifier k) = Specifier (specifier_shape k)
  shape_of (kinds.Declarator k) = Declarator (declarator_shape k)
  shape_of (kinds.Part k) = Part (part_shape k)
  shape_of (kinds.Outer k) = Outer (outer_shape k)
  shape_of (kinds.Statement k) = Statement (statement_shape k)
  shape_of (kinds.Iteration k) = Iteration (iteration_shape k)
  shape_of (kinds.Jump k) = Jump (jump_shape k)

  pub primary_shape : primary.Primary → PrimaryShape
  primary_shape (primary.Ident name) = Ident name.now
  primary_shape (primary.Constant token) = Constant token.now
  primary_shape (primary.StrConst literals) = StrConst literals.now
  primary_shape (primary.Paren' _ i p inner) = Paren (node i p (shape_of inner))
  primary_shape (primary.VaArg' _ i p list _ j q of) = VaArg (node i p (shape_of list)) (node j q (shape_of of))
  primary_shape (primary.Offsetof' _ i p of member path) = Offsetof (node i p (shape_of of)) member.now (nodes_of path)
  primary_shape (primary.Hole number) = Hole number

  pub operation_shape : operation.Operation → OperationShape
  operation_shape (operation.Index' _ i p array _ j q index) = Index (node i p (shape_of array)) (node j q (shape_of index))
  operation_shape (operation.Call' _ i p callee place arguments) = Call (node i p (shape_of callee)) place (nodes_of arguments)
  operation_shape (operation.Member' _ i p operand member) = Member (node i p (shape_of operand)) member.now
  operation_shape (operation.Arrow' _ i p operand member) = Arrow (node i p (shape_of operand)) member.now
  operation_shape (operation.CompoundLit' _ i p of _ j q braces) = CompoundLit (node i p (shape_of of)) (node j q (shape_of braces))
  operation_shape (operation.Unary' op _ i p operand) = Unary op (node i p (shape_of operand))
  operation_shape (operation.SizeofType' _ i p of) = SizeofType (node i p (shape_of of))
  operation_shape (operation.Cast' _ i p to _ j q operand) = Cast (node i p (shape_of to)) (node j q (shape_of operand))
  operation_shape (operation.Binary' op _ i p left _ j q right) = Binary op (node i p (shape_of left)) (node j q (shape_of right))
  operation_shape (operation.Cond' _ i p condition _ j q then _ k r otherwise) = Cond (node i p (shape_of condition)) (node j q (shape_of then)) (node k r (shape_of otherwise))
  operation_shape (operation.Assign' op _ i p left _ j q right) = Assign op (node i p (shape_of left)) (node j q (shape_of right))

  pub initializer_shape : initializer.Initializer → InitializerShape
  initializer_shape (initializer.Init' _ i p name _ j q declarator _ k r initial) = Init (node i p (shape_of name)) (node j q (shape_of declarator)) (node k r (shape_of initial))
  initializer_shape (initializer.Braces elements comma) = Braces (nodes_of elements) comma
  initializer_shape (initializer.Designated' designators _ i p initial) = Designated (nodes_of designators) (node i p (shape_of initial))

  pub specifier_shape : specifier.Specifier → SpecifierShape
  specifier_shape (specifier.TypeName' _ i p specs declarator) = TypeName (node i p (shape_of specs)) (maybe_node declarator)
  specifier_shape (specifier.Specs items) = Specs (nodes_of items)
  specifier_shape (specifier.StructTag which tag) = StructTag which tag.now
  specifier_shape (specifier.StructBody which tag members) = StructBody which (maybe_token tag) (nodes_of members)
  specifier_shape (specifier.EnumTag tag) = EnumTag tag.now
  specifier_shape (specifier.EnumBody tag enumerators comma) = EnumBody (maybe_token tag) (nodes_of enumerators) comma
  specifier_shape (specifier.StructDeclaration' _ i p specs declarators) = StructDeclaration (node i p (shape_of specs)) (nodes_of declarators)
  specifier_shape (specifier.BitField' declarator _ i p width) = BitField (maybe_node declarator) (node i p (shape_of width))
  specifier_shape (specifier.Param' _ i p specs declarator) = Param (node i p (shape_of specs)) (maybe_node declarator)

  pub declarator_shape : declarator.Declarator → DeclaratorShape
  declarator_shape (declarator.Named pointers name suffixes) = Named pointers.now name.now (nodes_of suffixes)
  declarator_shape (declarator.Nested' pointers _ i p inner suffixes) = Nested pointers.now (node i p (shape_of inner)) (nodes_of suffixes)
  declarator_shape (declarator.Unnamed pointers suffixes) = Unnamed pointers.now (nodes_of suffixes)

  pub part_shape : part.Part → PartShape
  part_shape (part.SpecWord word) = SpecWord word.now
  part_shape (part.ArrayBound' words bound) = ArrayBound words.now (maybe_node bound)
  part_shape part.VoidParams = VoidParams
  part_shape (part.Params params variadic) = Params (nodes_of params) variadic
  part_shape (part.Enumerator' name value) = Enumerator name.now (maybe_node value)
  part_shape (part.MemberDesignator member) = MemberDesignator member.now
  part_shape (part.IndexDesignator' _ i p index) = IndexDesignator (node i p (shape_of index))

  pub outer_shape : outer.Outer → OuterShape
  outer_shape (outer.Declaration' _ i p specs declarators) = Declaration (node i p (shape_of specs)) (nodes_of declarators)
  outer_shape (outer.Function' _ i p specs _ j q declarator _ k r body) = Function (node i p (shape_of specs)) (node j q (shape_of declarator)) (node k r (shape_of body))
  outer_shape outer.Empty = Empty

  pub statement_shape : statement.Statement → StatementShape
  statement_shape (statement.Block items) = Block (nodes_of items)
  statement_shape (statement.ExprStmt' value) = ExprStmt (maybe_node value)
  statement_shape (statement.If' _ i p condition _ j q then otherwise) = If (node i p (shape_of condition)) (node j q (shape_of then)) (maybe_node otherwise)
  statement_shape (statement.Switch' _ i p value _ j q body) = Switch (node i p (shape_of value)) (node j q (shape_of body))
  statement_shape (statement.Case' _ i p value _ j q body) = Case (node i p (shape_of value)) (node j q (shape_of body))
  statement_shape (statement.Default' _ i p body) = Default (node i p (shape_of body))
  statement_shape (statement.Label' label _ i p body) = Label label.now (node i p (shape_of body))

  pub iteration_shape : iteration.Iteration → IterationShape
  iteration_shape (iteration.While' _ i p condition _ j q body) = While (node i p (shape_of condition)) (node j q (shape_of body))
  iteration_shape (iteration.Do' _ i p body _ j q condition) = Do (node i p (shape_of body)) (node j q (shape_of condition))
  iteration_shape (iteration.For' first condition step _ i p body) = For (maybe_node first) (maybe_node condition) (maybe_node step) (node i p (shape_of body))
  iteration_shape (iteration.ForDeclaration' _ i p declaration condition step _ j q body) = ForDeclaration (node i p (shape_of declaration)) (maybe_node condition) (maybe_node step) (node j q (shape_of body))

  pub jump_shape : jump.Jump → JumpShape
  jump_shape (jump.Goto label) = Goto label.now
  jump_shape jump.Continue = Continue
  jump_shape jump.Break = Break
  jump_shape (jump.Return' value) = Return (maybe_node value)

  pub maybe_node : Held-Part-ArrayBound-1 → MaybeNode
  maybe_node None' = absent
  maybe_node (Some' _ i p e) = present (node i p (shape_of e))

  pub nodes_of : Trees → Nodes
  nodes_of (Trees' _ _ row) = row_nodes row

  pub row_nodes : {m : _} → Row_of-Tree m → Nodes
  row_nodes end_of-Tree = no_more
  row_nodes (more_of-Tree i p e rest) = more (node i p (shape_of e)) (row_nodes rest)

abbrev pub node_of : Tree → Node
node_of t = node t.id t.first (shape_of t.kind)

-- a tree that may be missing
abbrev pub option_node : Option (Bor Tree) → MaybeNode
option_node None = absent
option_node (Some t) = present (node_of t.now)

-- the nodes of a slice
abbrev pub nodes_in : List Tree → Nodes
nodes_in [] = no_more
nodes_in (t ∷ ts) = more (node_of t) (nodes_in ts)
