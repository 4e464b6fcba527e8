-- The numbers of holes that stand in a pattern.
use Rattle.std.specs.Prelude.{ℕ, List, [], ◌∷◌, ◌++◌}
use Rattle.c_tree.specs.Syntax.{Syntax, Primary, Operation, Initializer, Part, PrimarySyntax, OperationSyntax, InitializerSyntax, Paren, VaArg, Offsetof, Hole, Index, Call, Member, Arrow, CompoundLit, Unary, Cast, Binary, Cond, Assign, Braces, Designated, IndexDesignator, Syntaxes, no_more, more}

-- in the order of the text
abbrev mutual
  pub holes_in : Syntax → List ℕ
  holes_in (Primary k) = holes_in_primary k
  holes_in (Operation k) = holes_in_operation k
  holes_in (Initializer k) = holes_in_initializer k
  holes_in _ = []

  pub holes_in_primary : PrimarySyntax → List ℕ
  holes_in_primary (Paren inner) = holes_in inner
  holes_in_primary (VaArg list of) = holes_in list
  holes_in_primary (Offsetof of member path) = holes_in_path path
  holes_in_primary (Hole number) = number ∷ []
  holes_in_primary _ = []

  pub holes_in_operation : OperationSyntax → List ℕ
  holes_in_operation (Index array index) = holes_in array ++ holes_in index
  holes_in_operation (Call callee arguments) = holes_in callee ++ holes_in_all arguments
  holes_in_operation (Member operand member) = holes_in operand
  holes_in_operation (Arrow operand member) = holes_in operand
  holes_in_operation (CompoundLit of braces) = holes_in braces
  holes_in_operation (Unary op operand) = holes_in operand
  holes_in_operation (Cast to operand) = holes_in operand
  holes_in_operation (Binary op left right) = holes_in left ++ holes_in right
  holes_in_operation (Cond condition then otherwise) = holes_in condition ++ holes_in then ++ holes_in otherwise
  holes_in_operation (Assign op left right) = holes_in left ++ holes_in right
  holes_in_operation _ = []

  pub holes_in_initializer : InitializerSyntax → List ℕ
  holes_in_initializer (Braces elements comma) = holes_in_all elements
  holes_in_initializer (Designated designators initial) = holes_in_path designators ++ holes_in initial
  holes_in_initializer _ = []

  pub holes_in_all : Syntaxes → List ℕ
  holes_in_all no_more = []
  holes_in_all (more e es) = holes_in e ++ holes_in_all es

  pub holes_in_path : Syntaxes → List ℕ
  holes_in_path no_more = []
  holes_in_path (more e es) = holes_in_designator e ++ holes_in_path es

  pub holes_in_designator : Syntax → List ℕ
  holes_in_designator (Part (IndexDesignator index)) = holes_in index
  holes_in_designator _ = []
