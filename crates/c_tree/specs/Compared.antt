-- What two trees are compared by: parentheses are seen through, `x->f` is `(*x).f`, an integer constant is its value, and
-- a name with an initializer that isn't braced is an assignment to the name. Everything else is compared as it stands,
-- and nothing is seen through inside a type name.
use Rattle.std.specs.Prelude.{Bool, true, false, cond}
use Rattle.c_tree.specs.declared.operator.UnaryOp.TheVariants as unary
use Rattle.c_tree.specs.declared.operator.AssignOp.TheVariants as assign
use Rattle.c_tree.specs.Symbol.{Symbol, IntLiteral}
use Rattle.c_tree.specs.Syntax.{Syntax, Primary, Operation, Initializer, Specifier, Declarator, Part, Outer, Statement, Iteration, Jump, PrimarySyntax, OperationSyntax, InitializerSyntax, SpecifierSyntax, DeclaratorSyntax, PartSyntax, OuterSyntax, StatementSyntax, IterationSyntax, JumpSyntax, Ident, Constant, StrConst, Paren, VaArg, Offsetof, Hole, Index, Call, Member, Arrow, CompoundLit, Unary, SizeofType, Cast, Binary, Cond, Assign, Init, Braces, Designated, TypeName, Specs, StructTag, StructBody, EnumTag, EnumBody, StructDeclaration, BitField, Param, Named, Nested, Unnamed, SpecWord, ArrayBound, VoidParams, Params, Enumerator, MemberDesignator, IndexDesignator, Declaration, Function, Empty, Block, ExprStmt, If, Switch, Case, Default, Label, While, Do, For, ForDeclaration, Goto, Continue, Break, Return, MaybeSyntax, absent, present, Syntaxes, no_more, more}

-- an integer constant by its value, any other by its spelling
abbrev pub compared_constant : Symbol → Symbol
compared_constant (IntLiteral i _) = IntLiteral (record { value = i.value; decimal = true; unsigned = false; longs = 0 }) 0
compared_constant s = s

abbrev pub is_braces : Syntax → Bool
is_braces (Initializer (Braces _ _)) = true
is_braces _ = false

-- a name, its declarator and its initial, as they are compared
abbrev pub compared_init : Syntax → Syntax → Syntax → Syntax
compared_init name declarator initial =
    cond (is_braces initial) (Initializer (Init name declarator initial)) (Operation (Assign assign.Plain name initial))

-- what a pointer points to
abbrev pub pointed_to : Syntax → Syntax
pointed_to pointer = Operation (Unary unary.Deref pointer)

abbrev mutual
  pub compared : Syntax → Syntax
  compared (Primary k) = compared_primary k
  compared (Operation k) = Operation (compared_operation k)
  compared (Initializer k) = compared_initializer k
  compared (Specifier k) = Specifier (compared_specifier k)
  compared (Declarator k) = Declarator (compared_declarator k)
  compared (Part k) = Part (compared_part k)
  compared (Outer k) = Outer (compared_outer k)
  compared (Statement k) = Statement (compared_statement k)
  compared (Iteration k) = Iteration (compared_iteration k)
  compared (Jump k) = Jump (compared_jump k)

  pub compared_primary : PrimarySyntax → Syntax
  compared_primary (Ident name) = Primary (Ident name)
  compared_primary (Constant token) = Primary (Constant (compared_constant token))
  compared_primary (StrConst literals) = Primary (StrConst literals)
  compared_primary (Paren inner) = compared inner
  compared_primary (VaArg list of) = Primary (VaArg (compared list) (compared of))
  compared_primary (Offsetof of member path) = Primary (Offsetof (compared of) member (compared_all path))
  compared_primary (Hole number) = Primary (Hole number)

  pub compared_operation : OperationSyntax → OperationSyntax
  compared_operation (Index array index) = Index (compared array) (compared index)
  compared_operation (Call callee arguments) = Call (compared callee) (compared_all arguments)
  compared_operation (Member operand member) = Member (compared operand) member
  compared_operation (Arrow operand member) = Member (pointed_to (compared operand)) member
  compared_operation (CompoundLit of braces) = CompoundLit (compared of) (compared braces)
  compared_operation (Unary op operand) = Unary op (compared operand)
  compared_operation (SizeofType of) = SizeofType (compared of)
  compared_operation (Cast to operand) = Cast (compared to) (compared operand)
  compared_operation (Binary op left right) = Binary op (compared left) (compared right)
  compared_operation (Cond condition then otherwise) = Cond (compared condition) (compared then) (compared otherwise)
  compared_operation (Assign op left right) = Assign op (compared left) (compared right)

  pub compared_initializer : InitializerSyntax → Syntax
  compared_initializer (Init name declarator initial) = compared_init (compared name) (compared declarator) (compared initial)
  compared_initializer (Braces elements comma) = Initializer (Braces (compared_all elements) comma)
  compared_initializer (Designated designators initial) = Initializer (Designated (compared_all designators) (compared initial))

  pub compared_specifier : SpecifierSyntax → SpecifierSyntax
  compared_specifier (TypeName specs declarator) = TypeName specs declarator
  compared_specifier (Specs items) = Specs (compared_all items)
  compared_specifier (StructTag which tag) = StructTag which tag
  compared_specifier (StructBody which tag members) = StructBody which tag (compared_all members)
  compared_specifier (EnumTag tag) = EnumTag tag
  compared_specifier (EnumBody tag enumerators comma) = EnumBody tag (compared_all enumerators) comma
  compared_specifier (StructDeclaration specs declarators) = StructDeclaration (compared specs) (compared_all declarators)
  compared_specifier (BitField declarator width) = BitField (compared_maybe declarator) (compared width)
  compared_specifier (Param specs declarator) = Param (compared specs) (compared_maybe declarator)

  pub compared_declarator : DeclaratorSyntax → DeclaratorSyntax
  compared_declarator (Named pointers name suffixes) = Named pointers name (compared_all suffixes)
  compared_declarator (Nested pointers inner suffixes) = Nested pointers (compared inner) (compared_all suffixes)
  compared_declarator (Unnamed pointers suffixes) = Unnamed pointers (compared_all suffixes)

  pub compared_part : PartSyntax → PartSyntax
  compared_part (SpecWord word) = SpecWord word
  compared_part (ArrayBound words bound) = ArrayBound words (compared_maybe bound)
  compared_part VoidParams = VoidParams
  compared_part (Params params variadic) = Params (compared_all params) variadic
  compared_part (Enumerator name value) = Enumerator name (compared_maybe value)
  compared_part (MemberDesignator member) = MemberDesignator member
  compared_part (IndexDesignator index) = IndexDesignator (compared index)

  pub compared_outer : OuterSyntax → OuterSyntax
  compared_outer (Declaration specs declarators) = Declaration (compared specs) (compared_all declarators)
  compared_outer (Function specs declarator body) = Function (compared specs) (compared declarator) (compared body)
  compared_outer Empty = Empty

  pub compared_statement : StatementSyntax → StatementSyntax
  compared_statement (Block items) = Block (compared_all items)
  compared_statement (ExprStmt value) = ExprStmt (compared_maybe value)
  compared_statement (If condition then otherwise) = If (compared condition) (compared then) (compared_maybe otherwise)
  compared_statement (Switch value body) = Switch (compared value) (compared body)
  compared_statement (Case value body) = Case (compared value) (compared body)
  compared_statement (Default body) = Default (compared body)
  compared_statement (Label label body) = Label label (compared body)

  pub compared_iteration : IterationSyntax → IterationSyntax
  compared_iteration (While condition body) = While (compared condition) (compared body)
  compared_iteration (Do body condition) = Do (compared body) (compared condition)
  compared_iteration (For first condition step body) = For (compared_maybe first) (compared_maybe condition) (compared_maybe step) (compared body)
  compared_iteration (ForDeclaration declaration condition step body) = ForDeclaration (compared declaration) (compared_maybe condition) (compared_maybe step) (compared body)

  pub compared_jump : JumpSyntax → JumpSyntax
  compared_jump (Goto label) = Goto label
  compared_jump Continue = Continue
  compared_jump Break = Break
  compared_jump (Return value) = Return (compared_maybe value)

  pub compared_maybe : MaybeSyntax → MaybeSyntax
  compared_maybe absent = absent
  compared_maybe (present e) = present (compared e)

  pub compared_all : Syntaxes → Syntaxes
  compared_all no_more = no_more
  compared_all (more e es) = more (compared e) (compared_all es)

-- an operation, as a tree that is compared
abbrev pub operation_compared : OperationSyntax → Syntax
operation_compared k = Operation (compared_operation k)

abbrev pub primary_is_paren : PrimarySyntax → Bool
primary_is_paren (Paren _) = true
primary_is_paren _ = false

abbrev pub is_paren : Syntax → Bool
is_paren (Primary k) = primary_is_paren k
is_paren _ = false
