-- Syntax trees as values: what a tree says, without ids, places and memory. Equal trees are equal values.
use Rattle.std.specs.Prelude.{ℕ, Bool, List, Option}
use Rattle.c_tree.specs.declared.operator.AssignOp.{AssignOp}
use Rattle.c_tree.specs.declared.operator.BinaryOp.{BinaryOp}
use Rattle.c_tree.specs.declared.operator.StructOrUnion.{StructOrUnion}
use Rattle.c_tree.specs.declared.operator.UnaryOp.{UnaryOp}
use Rattle.c_tree.specs.Symbol.{Symbol}

-- The groups are the clauses of ISO 9899:1990; a kind has its parts in the order of its line of the grammar.
mutual
  pub data Syntax : Type 0 where
    Primary : PrimarySyntax → Syntax
    Operation : OperationSyntax → Syntax
    Initializer : InitializerSyntax → Syntax
    Specifier : SpecifierSyntax → Syntax
    Declarator : DeclaratorSyntax → Syntax
    Part : PartSyntax → Syntax
    Outer : OuterSyntax → Syntax
    Statement : StatementSyntax → Syntax
    Iteration : IterationSyntax → Syntax
    Jump : JumpSyntax → Syntax

  -- primary expressions (6.3.1)
  pub data PrimarySyntax : Type 0 where
    Ident : Symbol → PrimarySyntax
    Constant : Symbol → PrimarySyntax
    StrConst : List Symbol → PrimarySyntax
    Paren : Syntax → PrimarySyntax
    VaArg : Syntax → Syntax → PrimarySyntax
    Offsetof : Syntax → Symbol → Syntaxes → PrimarySyntax
    Hole : ℕ → PrimarySyntax

  -- operators on operands (6.3.2 to 6.3.17)
  pub data OperationSyntax : Type 0 where
    Index : Syntax → Syntax → OperationSyntax
    Call : Syntax → Syntaxes → OperationSyntax
    Member : Syntax → Symbol → OperationSyntax
    Arrow : Syntax → Symbol → OperationSyntax
    CompoundLit : Syntax → Syntax → OperationSyntax
    Unary : UnaryOp → Syntax → OperationSyntax
    SizeofType : Syntax → OperationSyntax
    Cast : Syntax → Syntax → OperationSyntax
    Binary : BinaryOp → Syntax → Syntax → OperationSyntax
    Cond : Syntax → Syntax → Syntax → OperationSyntax
    Assign : AssignOp → Syntax → Syntax → OperationSyntax

  -- initializers (6.5.7)
  pub data InitializerSyntax : Type 0 where
    Init : Syntax → Syntax → Syntax → InitializerSyntax
    Braces : Syntaxes → Bool → InitializerSyntax
    Designated : Syntaxes → Syntax → InitializerSyntax

  -- type names (6.5.5), specifiers (6.5, 6.5.2) and members (6.5.2.1)
  pub data SpecifierSyntax : Type 0 where
    TypeName : Syntax → MaybeSyntax → SpecifierSyntax
    Specs : Syntaxes → SpecifierSyntax
    StructTag : StructOrUnion → Symbol → SpecifierSyntax
    StructBody : StructOrUnion → Option Symbol → Syntaxes → SpecifierSyntax
    EnumTag : Symbol → SpecifierSyntax
    EnumBody : Option Symbol → Syntaxes → Bool → SpecifierSyntax
    StructDeclaration : Syntax → Syntaxes → SpecifierSyntax
    BitField : MaybeSyntax → Syntax → SpecifierSyntax
    Param : Syntax → MaybeSyntax → SpecifierSyntax

  -- declarators (6.5.4) and abstract ones (6.5.5)
  pub data DeclaratorSyntax : Type 0 where
    Named : List Symbol → Symbol → Syntaxes → DeclaratorSyntax
    Nested : List Symbol → Syntax → Syntaxes → DeclaratorSyntax
    Unnamed : List Symbol → Syntaxes → DeclaratorSyntax

  -- parts of specifiers, declarators and designators, which are no nodes of their own for the height
  pub data PartSyntax : Type 0 where
    SpecWord : Symbol → PartSyntax
    ArrayBound : List Symbol → MaybeSyntax → PartSyntax
    VoidParams : PartSyntax
    Params : Syntaxes → Bool → PartSyntax
    Enumerator : Symbol → MaybeSyntax → PartSyntax
    MemberDesignator : Symbol → PartSyntax
    IndexDesignator : Syntax → PartSyntax

  -- external definitions (6.7), and declarations in blocks
  pub data OuterSyntax : Type 0 where
    Declaration : Syntax → Syntaxes → OuterSyntax
    Function : Syntax → Syntax → Syntax → OuterSyntax
    Empty : OuterSyntax

  -- labeled, compound, expression and selection statements (6.6.1 to 6.6.4)
  pub data StatementSyntax : Type 0 where
    Block : Syntaxes → StatementSyntax
    ExprStmt : MaybeSyntax → StatementSyntax
    If : Syntax → Syntax → MaybeSyntax → StatementSyntax
    Switch : Syntax → Syntax → StatementSyntax
    Case : Syntax → Syntax → StatementSyntax
    Default : Syntax → StatementSyntax
    Label : Symbol → Syntax → StatementSyntax

  -- iteration statements (6.6.5)
  pub data IterationSyntax : Type 0 where
    While : Syntax → Syntax → IterationSyntax
    Do : Syntax → Syntax → IterationSyntax
    For : MaybeSyntax → MaybeSyntax → MaybeSyntax → Syntax → IterationSyntax
    ForDeclaration : Syntax → MaybeSyntax → MaybeSyntax → Syntax → IterationSyntax

  -- jump statements (6.6.6)
  pub data JumpSyntax : Type 0 where
    Goto : Symbol → JumpSyntax
    Continue : JumpSyntax
    Break : JumpSyntax
    Return : MaybeSyntax → JumpSyntax

  pub data MaybeSyntax : Type 0 where
    absent : MaybeSyntax
    present : Syntax → MaybeSyntax

  pub data Syntaxes : Type 0 where
    no_more : Syntaxes
    more : Syntax → Syntaxes → Syntaxes
