-- The syntax of a node: ids and places are forgotten, and of tokens their symbols are left.
use Rattle.std.specs.Prelude.{List, Option, None, Some}
use Rattle.std.specs.Borrow.{Bor}
use Rattle.std.specs.Option.{option_map}
use Rattle.c_tree.specs.declared.tree.Tree.{Tree}
use Rattle.c_tree.specs.declared.tree.Trees.{Trees}
use Rattle.c_tree.specs.declared.tree.Kind as kinds
use Rattle.c_tree.specs.declared.expression.Primary as primary
use Rattle.c_tree.specs.declared.expression.Operation as operation
use Rattle.c_tree.specs.declared.declaration.Initializer as initializer
use Rattle.c_tree.specs.declared.declaration.Specifier as specifier
use Rattle.c_tree.specs.declared.declaration.Declarator as declarator
use Rattle.c_tree.specs.declared.declaration.Part as part
use Rattle.c_tree.specs.declared.declaration.Outer as outer
use Rattle.c_tree.specs.declared.statement.Statement as statement
use Rattle.c_tree.specs.declared.statement.Iteration as iteration
use Rattle.c_tree.specs.declared.statement.Jump as jump
use Rattle.c_tree.specs.Symbol.{symbol_of, symbols_of}
use Rattle.c_tree.specs.Node.{Node, node, Shape, PrimaryShape, OperationShape, InitializerShape, SpecifierShape, DeclaratorShape, PartShape, OuterShape, StatementShape, IterationShape, JumpShape, MaybeNode, Nodes}
use Rattle.c_tree.specs.Node as nodes
use Rattle.c_tree.specs.Syntax.{Syntax, Primary, Operation, Initializer, Specifier, Declarator, Part, Outer, Statement, Iteration, Jump, PrimarySyntax, OperationSyntax, InitializerSyntax, SpecifierSyntax, DeclaratorSyntax, PartSyntax, OuterSyntax, StatementSyntax, IterationSyntax, JumpSyntax, Ident, Constant, StrConst, Paren, VaArg, Offsetof, Hole, Index, Call, Member, Arrow, CompoundLit, Unary, SizeofType, Cast, Binary, Cond, Assign, Init, Braces, Designated, TypeName, Specs, StructTag, StructBody, EnumTag, EnumBody, StructDeclaration, BitField, Param, Named, Nested, Unnamed, SpecWord, ArrayBound, VoidParams, Params, Enumerator, MemberDesignator, IndexDesignator, Declaration, Function, Empty, Block, ExprStmt, If, Switch, Case, Default, Label, While, Do, For, ForDeclaration, Goto, Continue, Break, Return, MaybeSyntax, absent, present, Syntaxes, no_more, more}
use Rattle.c_tree.specs.Views.{node_of, shape_of, nodes_of, nodes_in, primary_shape, operation_shape, initializer_shape, specifier_shape, declarator_shape, part_shape, outer_shape, statement_shape, iteration_shape, jump_shape}

abbrev mutual
  pub syntax_of : Node → Syntax
  syntax_of (node i p s) = shape_syntax s

  pub shape_syntax : Shape → Syntax
  shape_syntax (nodes.Primary k) = Primary (primary_syntax k)
  shape_syntax (nodes.Operation k) = Operation (operation_syntax k)
  shape_syntax (nodes.Initializer k) = Initializer (initializer_syntax k)
  shape_syntax (nodes.Specifier k) = Specifier (specifier_syntax k)
  shape_syntax (nodes.Declarator k) = Declarator (declarator_syntax k)
  shape_syntax (nodes.Part k) = Part (part_syntax k)
  shape_syntax (nodes.Outer k) = Outer (outer_syntax k)
  shape_syntax (nodes.Statement k) = Statement (statement_syntax k)
  shape_syntax (nodes.Iteration k) = Iteration (iteration_syntax k)
  shape_syntax (nodes.Jump k) = Jump (jump_syntax k)

  pub primary_syntax : PrimaryShape → PrimarySyntax
  primary_syntax (nodes.Ident name) = Ident (symbol_of name)
  primary_syntax (nodes.Constant token) = Constant (symbol_of token)
  primary_syntax (nodes.StrConst literals) = StrConst (symbols_of literals)
  primary_syntax (nodes.Paren inner) = Paren (syntax_of inner)
  primary_syntax (nodes.VaArg list of) = VaArg (syntax_of list) (syntax_of of)
  primary_syntax (nodes.Offsetof of member path) = Offsetof (syntax_of of) (symbol_of member) (syntaxes_of path)
  primary_syntax (nodes.Hole number) = Hole number

  pub operation_syntax : OperationShape → OperationSyntax
  operation_syntax (nodes.Index array index) = Index (syntax_of array) (syntax_of index)
  operation_syntax (nodes.Call callee _ arguments) = Call (syntax_of callee) (syntaxes_of arguments)
  operation_syntax (nodes.Member operand member) = Member (syntax_of operand) (symbol_of member)
  operation_syntax (nodes.Arrow operand member) = Arrow (syntax_of operand) (symbol_of member)
  operation_syntax (nodes.CompoundLit of braces) = CompoundLit (syntax_of of) (syntax_of braces)
  operation_syntax (nodes.Unary op operand) = Unary op (syntax_of operand)
  operation_syntax (nodes.SizeofType of) = SizeofType (syntax_of of)
  operation_syntax (nodes.Cast to operand) = Cast (syntax_of to) (syntax_of operand)
  operation_syntax (nodes.Binary op left right) = Binary op (syntax_of left) (syntax_of right)
  operation_syntax (nodes.Cond condition then otherwise) = Cond (syntax_of condition) (syntax_of then) (syntax_of otherwise)
  operation_syntax (nodes.Assign op left right) = Assign op (syntax_of left) (syntax_of right)

  pub initializer_syntax : InitializerShape → InitializerSyntax
  initializer_syntax (nodes.Init name declarator initial) = Init (syntax_of name) (syntax_of declarator) (syntax_of initial)
  initializer_syntax (nodes.Braces elements comma) = Braces (syntaxes_of elements) comma
  initializer_syntax (nodes.Designated designators initial) = Designated (syntaxes_of designators) (syntax_of initial)

  pub specifier_syntax : SpecifierShape → SpecifierSyntax
  specifier_syntax (nodes.TypeName specs declarator) = TypeName (syntax_of specs) (maybe_syntax declarator)
  specifier_syntax (nodes.Specs items) = Specs (syntaxes_of items)
  specifier_syntax (nodes.StructTag which tag) = StructTag which (symbol_of tag)
  specifier_syntax (nodes.StructBody which tag members) = StructBody which (option_map symbol_of tag) (syntaxes_of members)
  specifier_syntax (nodes.EnumTag tag) = EnumTag (symbol_of tag)
  specifier_syntax (nodes.EnumBody tag enumerators comma) = EnumBody (option_map symbol_of tag) (syntaxes_of enumerators) comma
  specifier_syntax (nodes.StructDeclaration specs declarators) = StructDeclaration (syntax_of specs) (syntaxes_of declarators)
  specifier_syntax (nodes.BitField declarator width) = BitField (maybe_syntax declarator) (syntax_of width)
  specifier_syntax (nodes.Param specs declarator) = Param (syntax_of specs) (maybe_syntax declarator)

  pub declarator_syntax : DeclaratorShape → DeclaratorSyntax
  declarator_syntax (nodes.Named pointers name suffixes) = Named (symbols_of pointers) (symbol_of name) (syntaxes_of suffixes)
  declarator_syntax (nodes.Nested pointers inner suffixes) = Nested (symbols_of pointers) (syntax_of inner) (syntaxes_of suffixes)
  declarator_syntax (nodes.Unnamed pointers suffixes) = Unnamed (symbols_of pointers) (syntaxes_of suffixes)

  pub part_syntax : PartShape → PartSyntax
  part_syntax (nodes.SpecWord word) = SpecWord (symbol_of word)
  part_syntax (nodes.ArrayBound words bound) = ArrayBound (symbols_of words) (maybe_syntax bound)
  part_syntax nodes.VoidParams = VoidParams
  part_syntax (nodes.Params params variadic) = Params (syntaxes_of params) variadic
  part_syntax (nodes.Enumerator name value) = Enumerator (symbol_of name) (maybe_syntax value)
  part_syntax (nodes.MemberDesignator member) = MemberDesignator (symbol_of member)
  part_syntax (nodes.IndexDesignator index) = IndexDesignator (syntax_of index)

  pub outer_syntax : OuterShape → OuterSyntax
  outer_syntax (nodes.Declaration specs declarators) = Declaration (syntax_of specs) (syntaxes_of declarators)
  outer_syntax (nodes.Function specs declarator body) = Function (syntax_of specs) (syntax_of declarator) (syntax_of body)
  outer_syntax nodes.Empty = Empty

  pub statement_syntax : StatementShape → StatementSyntax
  statement_syntax (nodes.Block items) = Block (syntaxes_of items)
  statement_syntax (nodes.ExprStmt value) = ExprStmt (maybe_syntax value)
  statement_syntax (nodes.If condition then otherwise) = If (syntax_of condition) (syntax_of then) (maybe_syntax otherwise)
  statement_syntax (nodes.Switch value body) = Switch (syntax_of value) (syntax_of body)
  statement_syntax (nodes.Case value body) = Case (syntax_of value) (syntax_of body)
  statement_syntax (nodes.Default body) = Default (syntax_of body)
  statement_syntax (nodes.Label label body) = Label (symbol_of label) (syntax_of body)

  pub iteration_syntax : IterationShape → IterationSyntax
  iteration_syntax (nodes.While condition body) = While (syntax_of condition) (syntax_of body)
  iteration_syntax (nodes.Do body condition) = Do (syntax_of body) (syntax_of condition)
  iteration_syntax (nodes.For first condition step body) = For (maybe_syntax first) (maybe_syntax condition) (maybe_syntax step) (syntax_of body)
  iteration_syntax (nodes.ForDeclaration declaration condition step body) = ForDeclaration (syntax_of declaration) (maybe_syntax condition) (maybe_syntax step) (syntax_of body)

  pub jump_syntax : JumpShape → JumpSyntax
  jump_syntax (nodes.Goto label) = Goto (symbol_of label)
  jump_syntax nodes.Continue = Continue
  jump_syntax nodes.Break = Break
  jump_syntax (nodes.Return value) = Return (maybe_syntax value)

  pub maybe_syntax : MaybeNode → MaybeSyntax
  maybe_syntax nodes.absent = absent
  maybe_syntax (nodes.present e) = present (syntax_of e)

  pub syntaxes_of : Nodes → Syntaxes
  syntaxes_of nodes.no_more = no_more
  syntaxes_of (nodes.more e es) = more (syntax_of e) (syntaxes_of es)

abbrev pub view : Tree → Syntax
view t = syntax_of (node_of t)

abbrev pub kind_view : kinds.Kind → Syntax
kind_view k = shape_syntax (shape_of k)

abbrev pub primary_view : primary.Primary → PrimarySyntax
primary_view k = primary_syntax (primary_shape k)

abbrev pub operation_view : operation.Operation → OperationSyntax
operation_view k = operation_syntax (operation_shape k)

abbrev pub initializer_view : initializer.Initializer → InitializerSyntax
initializer_view k = initializer_syntax (initializer_shape k)

abbrev pub specifier_view : specifier.Specifier → SpecifierSyntax
specifier_view k = specifier_syntax (specifier_shape k)

abbrev pub declarator_view : declarator.Declarator → DeclaratorSyntax
declarator_view k = declarator_syntax (declarator_shape k)

abbrev pub part_view : part.Part → PartSyntax
part_view k = part_syntax (part_shape k)

abbrev pub outer_view : outer.Outer → OuterSyntax
outer_view k = outer_syntax (outer_shape k)

abbrev pub statement_view : statement.Statement → StatementSyntax
statement_view k = statement_syntax (statement_shape k)

abbrev pub iteration_view : iteration.Iteration → IterationSyntax
iteration_view k = iteration_syntax (iteration_shape k)

abbrev pub jump_view : jump.Jump → JumpSyntax
jump_view k = jump_syntax (jump_shape k)

abbrev pub list_view : Trees → Syntaxes
list_view ts = syntaxes_of (nodes_of ts)

abbrev pub maybe_view : Option (Bor Tree) → MaybeSyntax
maybe_view None = absent
maybe_view (Some t) = present (view t.now)

-- the syntaxes of a slice
abbrev pub view_all : List Tree → Syntaxes
view_all ts = syntaxes_of (nodes_in ts)
