-- The height of a tree: 1 for a leaf, for a node one more than its highest child. The nodes of a list are children of
-- one node, and a part (of a declarator, of specifiers) is as high as its own highest child.
use Rattle.std.specs.Prelude.{ℕ, ◌+◌, max}
use Rattle.c_tree.specs.Syntax.{Syntax, Primary, Operation, Initializer, Specifier, Declarator, Part, Outer, Statement, Iteration, Jump, PrimarySyntax, OperationSyntax, InitializerSyntax, SpecifierSyntax, DeclaratorSyntax, PartSyntax, OuterSyntax, StatementSyntax, IterationSyntax, JumpSyntax, Ident, Constant, StrConst, Paren, VaArg, Offsetof, Hole, Index, Call, Member, Arrow, CompoundLit, Unary, SizeofType, Cast, Binary, Cond, Assign, Init, Braces, Designated, TypeName, Specs, StructTag, StructBody, EnumTag, EnumBody, StructDeclaration, BitField, Param, Named, Nested, Unnamed, SpecWord, ArrayBound, VoidParams, Params, Enumerator, MemberDesignator, IndexDesignator, Declaration, Function, Empty, Block, ExprStmt, If, Switch, Case, Default, Label, While, Do, For, ForDeclaration, Goto, Continue, Break, Return, MaybeSyntax, absent, present, Syntaxes, no_more, more}

abbrev mutual
  pub height_of : Syntax → ℕ
  height_of (Primary k) = primary_height k
  height_of (Operation k) = operation_height k
  height_of (Initializer k) = initializer_height k
  height_of (Specifier k) = specifier_height k
  height_of (Declarator k) = declarator_height k
  height_of (Part k) = part_height k
  height_of (Outer k) = outer_height k
  height_of (Statement k) = statement_height k
  height_of (Iteration k) = iteration_height k
  height_of (Jump k) = jump_height k

  pub primary_height : PrimarySyntax → ℕ
  primary_height (Ident _) = 1
  primary_height (Constant _) = 1
  primary_height (StrConst _) = 1
  primary_height (Paren inner) = height_of inner + 1
  primary_height (VaArg list of) = max (height_of list) (height_of of) + 1
  primary_height (Offsetof of _ path) = max (height_of of) (height_in path) + 1
  primary_height (Hole _) = 1

  pub operation_height : OperationSyntax → ℕ
  operation_height (Index array index) = max (height_of array) (height_of index) + 1
  operation_height (Call callee arguments) = max (height_of callee) (height_in arguments) + 1
  operation_height (Member operand _) = height_of operand + 1
  operation_height (Arrow operand _) = height_of operand + 1
  operation_height (CompoundLit of braces) = max (height_of of) (height_of braces) + 1
  operation_height (Unary _ operand) = height_of operand + 1
  operation_height (SizeofType of) = height_of of + 1
  operation_height (Cast to operand) = max (height_of to) (height_of operand) + 1
  operation_height (Binary _ left right) = max (height_of left) (height_of right) + 1
  operation_height (Cond condition then otherwise) = max (max (height_of condition) (height_of then)) (height_of otherwise) + 1
  operation_height (Assign _ left right) = max (height_of left) (height_of right) + 1

  pub initializer_height : InitializerSyntax → ℕ
  initializer_height (Init name declarator initial) = max (max (height_of name) (height_of declarator)) (height_of initial) + 1
  initializer_height (Braces elements _) = height_in elements + 1
  initializer_height (Designated designators initial) = max (height_in designators) (height_of initial) + 1

  pub specifier_height : SpecifierSyntax → ℕ
  specifier_height (TypeName specs declarator) = max (height_of specs) (height_maybe declarator) + 1
  specifier_height (Specs items) = height_in items + 1
  specifier_height (StructTag _ _) = 1
  specifier_height (StructBody _ _ members) = height_in members + 1
  specifier_height (EnumTag _) = 1
  specifier_height (EnumBody _ enumerators _) = height_in enumerators + 1
  specifier_height (StructDeclaration specs declarators) = max (height_of specs) (height_in declarators) + 1
  specifier_height (BitField declarator width) = max (height_maybe declarator) (height_of width) + 1
  specifier_height (Param specs declarator) = max (height_of specs) (height_maybe declarator) + 1

  pub declarator_height : DeclaratorSyntax → ℕ
  declarator_height (Named _ _ suffixes) = height_in suffixes + 1
  declarator_height (Nested _ inner suffixes) = max (height_of inner) (height_in suffixes) + 1
  declarator_height (Unnamed _ suffixes) = height_in suffixes + 1

  pub part_height : PartSyntax → ℕ
  part_height (SpecWord _) = 0
  part_height (ArrayBound _ bound) = height_maybe bound
  part_height VoidParams = 0
  part_height (Params params _) = height_in params
  part_height (Enumerator _ value) = height_maybe value
  part_height (MemberDesignator _) = 0
  part_height (IndexDesignator index) = height_of index

  pub outer_height : OuterSyntax → ℕ
  outer_height (Declaration specs declarators) = max (height_of specs) (height_in declarators) + 1
  outer_height (Function specs declarator body) = max (max (height_of specs) (height_of declarator)) (height_of body) + 1
  outer_height Empty = 1

  pub statement_height : StatementSyntax → ℕ
  statement_height (Block items) = height_in items + 1
  statement_height (ExprStmt value) = height_maybe value + 1
  statement_height (If condition then otherwise) = max (max (height_of condition) (height_of then)) (height_maybe otherwise) + 1
  statement_height (Switch value body) = max (height_of value) (height_of body) + 1
  statement_height (Case value body) = max (height_of value) (height_of body) + 1
  statement_height (Default body) = height_of body + 1
  statement_height (Label _ body) = height_of body + 1

  pub iteration_height : IterationSyntax → ℕ
  iteration_height (While condition body) = max (height_of condition) (height_of body) + 1
  iteration_height (Do body condition) = max (height_of body) (height_of condition) + 1
  iteration_height (For first condition step body) = max (max (max (height_maybe first) (height_maybe condition)) (height_maybe step)) (height_of body) + 1
  iteration_height (ForDeclaration declaration condition step body) = max (max (max (height_of declaration) (height_maybe condition)) (height_maybe step)) (height_of body) + 1

  pub jump_height : JumpSyntax → ℕ
  jump_height (Goto _) = 1
  jump_height Continue = 1
  jump_height Break = 1
  jump_height (Return value) = height_maybe value + 1

  pub height_maybe : MaybeSyntax → ℕ
  height_maybe absent = 0
  height_maybe (present e) = height_of e

  pub height_in : Syntaxes → ℕ
  height_in no_more = 0
  height_in (more e es) = max (height_of e) (height_in es)
