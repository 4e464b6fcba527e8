-- Equal to the scopes of `Moves` behind a node, by the kinds of nodes.
-- The scopes behind a node, written out for each kind, as code goes through it.
use Rattle.std.specs.Prelude.{cond}
use Rattle.c_tree.specs.Node.{Node, node, Shape, Primary, Operation, Initializer, Specifier, Declarator, Part, Outer, Statement, Iteration, Jump, PrimaryShape, OperationShape, InitializerShape, SpecifierShape, DeclaratorShape, PartShape, OuterShape, StatementShape, IterationShape, JumpShape, Ident, Constant, StrConst, Paren, VaArg, Offsetof, Hole, Index, Call, Member, Arrow, CompoundLit, Unary, SizeofType, Cast, Binary, Cond, Assign, Init, Braces, Designated, TypeName, Specs, StructTag, StructBody, EnumTag, EnumBody, StructDeclaration, BitField, Param, Named, Nested, Unnamed, SpecWord, ArrayBound, VoidParams, Params, Enumerator, MemberDesignator, IndexDesignator, Declaration, Function, Empty, Block, ExprStmt, If, Switch, Case, Default, Label, While, Do, For, ForDeclaration, Goto, Continue, Break, Return, MaybeNode, absent, present, Nodes, no_more, more}
use Rattle.type_rules.specs.Declarators.{is_bare}
use Rattle.type_rules.specs.Moves.{opened_block, closed}
use Rattle.type_rules.specs.Roles.{Role, Plain, Callee, Declares, Defines, Formal, Inside, Body, owner_of, inner_role, specs_role, item_role}
use Rattle.type_rules.specs.Roles as roles
use Rattle.type_rules.specs.Scopes.{Scopes, Enums, deeper}
use Rattle.type_rules.specs.Specified.{specified_type, storage_of}
use Rattle.type_rules.specs.Tags.{sort_of, body_number, body_opened}

abbrev mutual
  pub scoped : Scopes → Role → Node → Scopes
  scoped v r (node i p s) = closed v r s (within v r s)

  -- behind the parts of a node
  pub within : Scopes → Role → Shape → Scopes
  within v r (Primary k) = within_primary v r k
  within v r (Operation k) = within_operation v r k
  within v r (Initializer k) = within_initializer v r k
  within v r (Specifier k) = within_specifier v r k
  within v r (Declarator k) = within_declarator v r k
  within v r (Part k) = within_part v r k
  within v r (Outer k) = within_outer v r k
  within v r (Statement k) = within_statement v r k
  within v r (Iteration k) = within_iteration v r k
  within v r (Jump k) = within_jump v r k

  pub within_primary : Scopes → Role → PrimaryShape → Scopes
  within_primary v r (Ident name) = v
  within_primary v r (Constant token) = v
  within_primary v r (StrConst literals) = v
  within_primary v r (Paren inner) = scoped v Plain inner
  within_primary v r (VaArg list of) = scoped (scoped v Plain list) Plain of
  within_primary v r (Offsetof of member path) = scoped_each (scoped v Plain of) Plain path
  within_primary v r (Hole number) = v

  pub within_operation : Scopes → Role → OperationShape → Scopes
  within_operation v r (Index array index) = scoped (scoped v Plain array) Plain index
  within_operation v r (Call function paren arguments) = scoped_each (scoped v Callee function) Plain arguments
  within_operation v r (Member operand name) = scoped v Plain operand
  within_operation v r (Arrow operand name) = scoped v Plain operand
  within_operation v r (CompoundLit of braces) = scoped (scoped v Plain of) Plain braces
  within_operation v r (Unary op operand) = scoped v Plain operand
  within_operation v r (SizeofType of) = scoped v Plain of
  within_operation v r (Cast to operand) = scoped (scoped v Plain to) Plain operand
  within_operation v r (Binary op left right) = scoped (scoped v Plain left) Plain right
  within_operation v r (Cond condition then otherwise) = scoped (scoped (scoped v Plain condition) Plain then) Plain otherwise
  within_operation v r (Assign op left right) = scoped (scoped v Plain left) Plain right

  pub within_initializer : Scopes → Role → InitializerShape → Scopes
  within_initializer v r (Init name declarator initial) = scoped (scoped (scoped v r declarator) Plain name) Plain initial
  within_initializer v r (Braces elements comma) = scoped_each v Plain elements
  within_initializer v r (Designated designators initial) = scoped (scoped_each v Plain designators) Plain initial

  pub within_specifier : Scopes → Role → SpecifierShape → Scopes
  within_specifier v r (TypeName specs declarator) = scoped_maybe (scoped v Plain specs) Plain declarator
  within_specifier v r (Specs items) = scoped_each v (item_role r items) items
  within_specifier v r (StructTag which tag) = v
  within_specifier v r (StructBody which tag members) = scoped_each (body_opened v (sort_of which) tag) (Inside (body_number v (sort_of which) tag)) members
  within_specifier v r (EnumTag tag) = v
  within_specifier v r (EnumBody tag enumerators comma) = scoped_each (body_opened v Enums tag) Plain enumerators
  within_specifier v r (StructDeclaration specs declarators) = scoped_each (scoped v Plain specs) (roles.Member (owner_of r) (specified_type v specs)) declarators
  within_specifier v r (BitField declarator width) = scoped (scoped_maybe v r declarator) Plain width
  within_specifier v r (Param specs declarator) = scoped_maybe (scoped v Plain specs) (Formal (specified_type v specs)) declarator

  pub within_declarator : Scopes → Role → DeclaratorShape → Scopes
  within_declarator v r (Named pointers name suffixes) = scoped_beside v (inner_role r) suffixes
  within_declarator v r (Nested pointers inner suffixes) = scoped_beside (scoped v (cond (is_bare inner) Plain (inner_role r)) inner) (cond (is_bare inner) (inner_role r) Plain) suffixes
  within_declarator v r (Unnamed pointers suffixes) = scoped_each v Plain suffixes

  pub within_part : Scopes → Role → PartShape → Scopes
  within_part v r (SpecWord word) = v
  within_part v r (ArrayBound words bound) = scoped_maybe v Plain bound
  within_part v r VoidParams = v
  within_part v r (Params params variadic) = scoped_each (deeper v) Plain params
  within_part v r (Enumerator name value) = scoped_maybe v Plain value
  within_part v r (MemberDesignator member) = v
  within_part v r (IndexDesignator index) = scoped v Plain index

  pub within_outer : Scopes → Role → OuterShape → Scopes
  within_outer v r (Declaration specs declarators) = scoped_each (scoped v (specs_role declarators) specs) (Declares (storage_of specs) (specified_type v specs)) declarators
  within_outer v r (Function specs declarator block) = scoped (scoped (scoped v Plain specs) (Defines (storage_of specs) (specified_type v specs)) declarator) Body block
  within_outer v r Empty = v

  pub within_statement : Scopes → Role → StatementShape → Scopes
  within_statement v r (Block items) = scoped_each (opened_block v r) Plain items
  within_statement v r (ExprStmt value) = scoped_maybe v Plain value
  within_statement v r (If condition then otherwise) = scoped_maybe (scoped (scoped v Plain condition) Plain then) Plain otherwise
  within_statement v r (Switch value inner) = scoped (scoped v Plain value) Plain inner
  within_statement v r (Case value inner) = scoped (scoped v Plain value) Plain inner
  within_statement v r (Default inner) = scoped v Plain inner
  within_statement v r (Label label inner) = scoped v Plain inner

  pub within_iteration : Scopes → Role → IterationShape → Scopes
  within_iteration v r (While condition inner) = scoped (scoped v Plain condition) Plain inner
  within_iteration v r (Do inner condition) = scoped (scoped v Plain inner) Plain condition
  within_iteration v r (For first condition step inner) = scoped (scoped_maybe (scoped_maybe (scoped_maybe v Plain first) Plain condition) Plain step) Plain inner
  within_iteration v r (ForDeclaration declaration condition step inner) = scoped (scoped_maybe (scoped_maybe (scoped (deeper v) Plain declaration) Plain condition) Plain step) Plain inner

  pub within_jump : Scopes → Role → JumpShape → Scopes
  within_jump v r (Goto label) = v
  within_jump v r Continue = v
  within_jump v r Break = v
  within_jump v r (Return value) = scoped_maybe v Plain value

  pub scoped_maybe : Scopes → Role → MaybeNode → Scopes
  scoped_maybe v r absent = v
  scoped_maybe v r (present e) = scoped v r e

  pub scoped_each : Scopes → Role → Nodes → Scopes
  scoped_each v r no_more = v
  scoped_each v r (more e es) = scoped_each (scoped v r e) r es

  -- the first in this role
  pub scoped_beside : Scopes → Role → Nodes → Scopes
  scoped_beside v r no_more = v
  scoped_beside v r (more e es) = scoped_beside (scoped v r e) Plain es
