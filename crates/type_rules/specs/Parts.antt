-- The parts of each kind of node in the order in which they are visited, which is that of the text.
use Rattle.std.specs.Prelude.{ℕ, Option}
use Rattle.c_tree.specs.declared.operator.StructOrUnion.{StructOrUnion}
use Rattle.c_tree.specs.declared.place.Place.{Place}
use Rattle.c_tree.specs.declared.token.Token.{Token}
use Rattle.c_tree.specs.Node.{Node, node, Shape, Primary, Operation, Initializer, Specifier, Declarator, Part, Outer, Statement, Iteration, Jump, PrimaryShape, OperationShape, InitializerShape, SpecifierShape, DeclaratorShape, PartShape, OuterShape, StatementShape, IterationShape, JumpShape, Ident, Constant, StrConst, Paren, VaArg, Offsetof, Hole, Index, Call, Member, Arrow, CompoundLit, Unary, SizeofType, Cast, Binary, Cond, Assign, Init, Braces, Designated, TypeName, Specs, StructTag, StructBody, EnumTag, EnumBody, StructDeclaration, BitField, Param, Named, Nested, Unnamed, SpecWord, ArrayBound, VoidParams, Params, Enumerator, MemberDesignator, IndexDesignator, Declaration, Function, Empty, Block, ExprStmt, If, Switch, Case, Default, Label, While, Do, For, ForDeclaration, Goto, Continue, Break, Return, MaybeNode, absent, present, Nodes, no_more, more}

-- What a part is to its whole.
pub data Slot : Type 0 where
  plain : Slot
  -- what is called
  callee : Slot
  -- the specifiers of a declaration of these, and one of these specifiers
  specs_of : Nodes → Slot
  item_of : Nodes → Slot
  -- the same as the whole
  same : Slot
  -- a declarator behind these specifiers: of a declaration, of the definition of a function, of a parameter, of a member
  declared_by : Node → Slot
  defined_by : Node → Slot
  formal_by : Node → Slot
  member_by : Node → Slot
  -- the suffix beside the name of a declarator; the declarator inside another, and the suffix beside that
  beside_name : Slot
  toward : Node → Slot
  beside : Node → Slot
  -- a member declaration in this body
  inside : StructOrUnion → Option Token → Slot
  -- the body of a function
  body : Slot

mutual
  -- a node: its number, place and kind, and its parts as nodes
  pub data Visit : Type 0 where
    visit : ℕ → Place → Shape → Parts → Visit

  pub data Parts : Type 0 where
    none : Parts
    part : Slot → Visit → Parts → Parts

abbrev mutual
  pub flat : Node → Visit
  flat (node i p s) = visit i p s (parts s)

  pub parts : Shape → Parts
  parts (Primary k) = primary_parts k
  parts (Operation k) = operation_parts k
  parts (Initializer k) = initializer_parts k
  parts (Specifier k) = specifier_parts k
  parts (Declarator k) = declarator_parts k
  parts (Part k) = part_parts k
  parts (Outer k) = outer_parts k
  parts (Statement k) = statement_parts k
  parts (Iteration k) = iteration_parts k
  parts (Jump k) = jump_parts k

  pub primary_parts : PrimaryShape → Parts
  primary_parts (Ident name) = none
  primary_parts (Constant token) = none
  primary_parts (StrConst literals) = none
  primary_parts (Paren inner) = part plain (flat inner) none
  primary_parts (VaArg list of) = part plain (flat list) (part plain (flat of) none)
  primary_parts (Offsetof of member path) = part plain (flat of) (each plain path none)
  primary_parts (Hole number) = none

  pub operation_parts : OperationShape → Parts
  operation_parts (Index array index) = part plain (flat array) (part plain (flat index) none)
  operation_parts (Call function paren arguments) = part callee (flat function) (each plain arguments none)
  operation_parts (Member operand member) = part plain (flat operand) none
  operation_parts (Arrow operand member) = part plain (flat operand) none
  operation_parts (CompoundLit of braces) = part plain (flat of) (part plain (flat braces) none)
  operation_parts (Unary op operand) = part plain (flat operand) none
  operation_parts (SizeofType of) = part plain (flat of) none
  operation_parts (Cast to operand) = part plain (flat to) (part plain (flat operand) none)
  operation_parts (Binary op left right) = part plain (flat left) (part plain (flat right) none)
  operation_parts (Cond condition then otherwise) = part plain (flat condition) (part plain (flat then) (part plain (flat otherwise) none))
  operation_parts (Assign op left right) = part plain (flat left) (part plain (flat right) none)

  -- the name of an initialized declarator is an expression of its own, between the declarator and the initial
  pub initializer_parts : InitializerShape → Parts
  initializer_parts (Init name declarator initial) = part same (flat declarator) (part plain (flat name) (part plain (flat initial) none))
  initializer_parts (Braces elements comma) = each plain elements none
  initializer_parts (Designated designators initial) = each plain designators (part plain (flat initial) none)

  pub specifier_parts : SpecifierShape → Parts
  specifier_parts (TypeName specs declarator) = part plain (flat specs) (maybe plain declarator none)
  specifier_parts (Specs items) = each (item_of items) items none
  specifier_parts (StructTag which tag) = none
  specifier_parts (StructBody which tag members) = each (inside which tag) members none
  specifier_parts (EnumTag tag) = none
  specifier_parts (EnumBody tag enumerators comma) = each plain enumerators none
  specifier_parts (StructDeclaration specs declarators) = part plain (flat specs) (each (member_by specs) declarators none)
  specifier_parts (BitField declarator width) = maybe same declarator (part plain (flat width) none)
  specifier_parts (Param specs declarator) = part plain (flat specs) (maybe (formal_by specs) declarator none)

  -- what stands in parentheses comes before the suffixes
  pub declarator_parts : DeclaratorShape → Parts
  declarator_parts (Named pointers name suffixes) = first_in beside_name suffixes
  declarator_parts (Nested pointers inner suffixes) = part (toward inner) (flat inner) (first_in (beside inner) suffixes)
  declarator_parts (Unnamed pointers suffixes) = each plain suffixes none

  -- all of these, the first of them in this slot
  pub first_in : Slot → Nodes → Parts
  first_in s no_more = none
  first_in s (more e es) = part s (flat e) (each plain es none)

  pub part_parts : PartShape → Parts
  part_parts (SpecWord word) = none
  part_parts (ArrayBound words bound) = maybe plain bound none
  part_parts VoidParams = none
  part_parts (Params params variadic) = each plain params none
  part_parts (Enumerator name value) = maybe plain value none
  part_parts (MemberDesignator member) = none
  part_parts (IndexDesignator index) = part plain (flat index) none

  pub outer_parts : OuterShape → Parts
  outer_parts (Declaration specs declarators) = part (specs_of declarators) (flat specs) (each (declared_by specs) declarators none)
  outer_parts (Function specs declarator block) = part plain (flat specs) (part (defined_by specs) (flat declarator) (part body (flat block) none))
  outer_parts Empty = none

  pub statement_parts : StatementShape → Parts
  statement_parts (Block items) = each plain items none
  statement_parts (ExprStmt value) = maybe plain value none
  statement_parts (If condition then otherwise) = part plain (flat condition) (part plain (flat then) (maybe plain otherwise none))
  statement_parts (Switch value inner) = part plain (flat value) (part plain (flat inner) none)
  statement_parts (Case value inner) = part plain (flat value) (part plain (flat inner) none)
  statement_parts (Default inner) = part plain (flat inner) none
  statement_parts (Label label inner) = part plain (flat inner) none

  pub iteration_parts : IterationShape → Parts
  iteration_parts (While condition inner) = part plain (flat condition) (part plain (flat inner) none)
  iteration_parts (Do inner condition) = part plain (flat inner) (part plain (flat condition) none)
  iteration_parts (For first condition step inner) = maybe plain first (maybe plain condition (maybe plain step (part plain (flat inner) none)))
  iteration_parts (ForDeclaration declaration condition step inner) = part plain (flat declaration) (maybe plain condition (maybe plain step (part plain (flat inner) none)))

  pub jump_parts : JumpShape → Parts
  jump_parts (Goto label) = none
  jump_parts Continue = none
  jump_parts Break = none
  jump_parts (Return value) = maybe plain value none

  -- a node that may be missing, and then these
  pub maybe : Slot → MaybeNode → Parts → Parts
  maybe s absent rest = rest
  maybe s (present e) rest = part s (flat e) rest

  -- all of these in one slot, and then those
  pub each : Slot → Nodes → Parts → Parts
  each s no_more rest = rest
  each s (more e es) rest = part s (flat e) (each s es rest)
