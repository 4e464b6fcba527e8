-- Trees as values that keep the ids and the places of their nodes, and whole tokens.
use Rattle.std.specs.Prelude.{ℕ, Bool, List, Option}
use Rattle.c_tree.specs.declared.operator.AssignOp.{AssignOp}
use Rattle.c_tree.specs.declared.operator.BinaryOp.{BinaryOp}
use Rattle.c_tree.specs.declared.operator.StructOrUnion.{StructOrUnion}
use Rattle.c_tree.specs.declared.operator.UnaryOp.{UnaryOp}
use Rattle.c_tree.specs.declared.place.Place.{Place}
use Rattle.c_tree.specs.declared.token.Token.{Token}

mutual
  -- its id, the place of its first token, and its kind
  pub data Node : Type 0 where
    node : ℕ → Place → Shape → Node

  -- the kinds, with the names that they have in `Syntax`
  pub data Shape : Type 0 where
    Primary : PrimaryShape → Shape
    Operation : OperationShape → Shape
    Initializer : InitializerShape → Shape
    Specifier : SpecifierShape → Shape
    Declarator : DeclaratorShape → Shape
    Part : PartShape → Shape
    Outer : OuterShape → Shape
    Statement : StatementShape → Shape
    Iteration : IterationShape → Shape
    Jump : JumpShape → Shape

  pub data PrimaryShape : Type 0 where
    Ident : Token → PrimaryShape
    Constant : Token → PrimaryShape
    StrConst : List Token → PrimaryShape
    Paren : Node → PrimaryShape
    VaArg : Node → Node → PrimaryShape
    Offsetof : Node → Token → Nodes → PrimaryShape
    Hole : ℕ → PrimaryShape

  pub data OperationShape : Type 0 where
    Index : Node → Node → OperationShape
    Call : Node → Place → Nodes → OperationShape
    Member : Node → Token → OperationShape
    Arrow : Node → Token → OperationShape
    CompoundLit : Node → Node → OperationShape
    Unary : UnaryOp → Node → OperationShape
    SizeofType : Node → OperationShape
    Cast : Node → Node → OperationShape
    Binary : BinaryOp → Node → Node → OperationShape
    Cond : Node → Node → Node → OperationShape
    Assign : AssignOp → Node → Node → OperationShape

  pub data InitializerShape : Type 0 where
    Init : Node → Node → Node → InitializerShape
    Braces : Nodes → Bool → InitializerShape
    Designated : Nodes → Node → InitializerShape

  pub data SpecifierShape : Type 0 where
    TypeName : Node → MaybeNode → SpecifierShape
    Specs : Nodes → SpecifierShape
    StructTag : StructOrUnion → Token → SpecifierShape
    StructBody : StructOrUnion → Option Token → Nodes → SpecifierShape
    EnumTag : Token → SpecifierShape
    EnumBody : Option Token → Nodes → Bool → SpecifierShape
    StructDeclaration : Node → Nodes → SpecifierShape
    BitField : MaybeNode → Node → SpecifierShape
    Param : Node → MaybeNode → SpecifierShape

  pub data DeclaratorShape : Type 0 where
    Named : List Token → Token → Nodes → DeclaratorShape
    Nested : List Token → Node → Nodes → DeclaratorShape
    Unnamed : List Token → Nodes → DeclaratorShape

  pub data PartShape : Type 0 where
    SpecWord : Token → PartShape
    ArrayBound : List Token → MaybeNode → PartShape
    VoidParams : PartShape
    Params : Nodes → Bool → PartShape
    Enumerator : Token → MaybeNode → PartShape
    MemberDesignator : Token → PartShape
    IndexDesignator : Node → PartShape

  pub data OuterShape : Type 0 where
    Declaration : Node → Nodes → OuterShape
    Function : Node → Node → Node → OuterShape
    Empty : OuterShape

  pub data StatementShape : Type 0 where
    Block : Nodes → StatementShape
    ExprStmt : MaybeNode → StatementShape
    If : Node → Node → MaybeNode → StatementShape
    Switch : Node → Node → StatementShape
    Case : Node → Node → StatementShape
    Default : Node → StatementShape
    Label : Token → Node → StatementShape

  pub data IterationShape : Type 0 where
    While : Node → Node → IterationShape
    Do : Node → Node → IterationShape
    For : MaybeNode → MaybeNode → MaybeNode → Node → IterationShape
    ForDeclaration : Node → MaybeNode → MaybeNode → Node → IterationShape

  pub data JumpShape : Type 0 where
    Goto : Token → JumpShape
    Continue : JumpShape
    Break : JumpShape
    Return : MaybeNode → JumpShape

  pub data MaybeNode : Type 0 where
    absent : MaybeNode
    present : Node → MaybeNode

  pub data Nodes : Type 0 where
    no_more : Nodes
    more : Node → Nodes → Nodes
