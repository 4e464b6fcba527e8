-- Equal to the table of `Order` behind a node, by the kinds of nodes.
-- The table behind a node, written out for each kind, as code fills it.
use Rattle.std.specs.Prelude.{cond}
use Rattle.c_tree.specs.Node.{Node, node, Shape, Primary, Operation, Initializer, Specifier, Declarator, Part, Outer, Statement, Iteration, Jump, PrimaryShape, OperationShape, InitializerShape, SpecifierShape, DeclaratorShape, PartShape, OuterShape, StatementShape, IterationShape, JumpShape, Ident, Constant, StrConst, Paren, VaArg, Offsetof, Hole, Index, Call, Member, Arrow, CompoundLit, Unary, SizeofType, Cast, Binary, Cond, Assign, Init, Braces, Designated, TypeName, Specs, StructTag, StructBody, EnumTag, EnumBody, StructDeclaration, BitField, Param, Named, Nested, Unnamed, SpecWord, ArrayBound, VoidParams, Params, Enumerator, MemberDesignator, IndexDesignator, Declaration, Function, Empty, Block, ExprStmt, If, Switch, Case, Default, Label, While, Do, For, ForDeclaration, Goto, Continue, Break, Return, MaybeNode, absent, present, Nodes, no_more, more}
use Rattle.type_rules.specs.Declarators.{is_bare}
use Rattle.type_rules.specs.Definition.{Table}
use Rattle.type_rules.specs.Moves.{opened_block}
use Rattle.type_rules.specs.Order.{put_kept}
use Rattle.type_rules.specs.Roles.{Role, Plain, Callee, Declares, Defines, Formal, Inside, Body, owner_of, inner_role, specs_role, item_role}
use Rattle.type_rules.specs.Roles as roles
use Rattle.type_rules.specs.Rows.{keeps, var_of}
use Rattle.type_rules.specs.Scopes.{Scopes, Enums, deeper}
use Rattle.type_rules.specs.Ways.ScopesByCase.{within, scoped, scoped_maybe, scoped_each}
use Rattle.type_rules.specs.Specified.{specified_type, storage_of}
use Rattle.type_rules.specs.Tags.{sort_of, body_number, body_opened}
use Rattle.type_rules.specs.Ways.TypesByCase.{typed_shape}

abbrev mutual
  pub filled : Scopes → Role → Node → Table → Table
  filled v r (node i p s) table = put_kept (keeps (within v r s) r s) i (var_of v (within v r s) r s) (typed_shape v r p s) (filled_shape v r s table)

  -- behind the parts of a node
  pub filled_shape : Scopes → Role → Shape → Table → Table
  filled_shape v r (Primary k) table = filled_primary v r k table
  filled_shape v r (Operation k) table = filled_operation v r k table
  filled_shape v r (Initializer k) table = filled_initializer v r k table
  filled_shape v r (Specifier k) table = filled_specifier v r k table
  filled_shape v r (Declarator k) table = filled_declarator v r k table
  filled_shape v r (Part k) table = filled_part v r k table
  filled_shape v r (Outer k) table = filled_outer v r k table
  filled_shape v r (Statement k) table = filled_statement v r k table
  filled_shape v r (Iteration k) table = filled_iteration v r k table
  filled_shape v r (Jump k) table = filled_jump v r k table

  pub filled_primary : Scopes → Role → PrimaryShape → Table → Table
  filled_primary v r (Ident name) table = table
  filled_primary v r (Constant token) table = table
  filled_primary v r (StrConst literals) table = table
  filled_primary v r (Paren inner) table = filled v Plain inner table
  filled_primary v r (VaArg list of) table = filled (scoped v Plain list) Plain of (filled v Plain list table)
  filled_primary v r (Offsetof of member path) table = filled_each (scoped v Plain of) Plain path (filled v Plain of table)
  filled_primary v r (Hole number) table = table

  pub filled_operation : Scopes → Role → OperationShape → Table → Table
  filled_operation v r (Index array index) table = filled (scoped v Plain array) Plain index (filled v Plain array table)
  filled_operation v r (Call function paren arguments) table = filled_each (scoped v Callee function) Plain arguments (filled v Callee function table)
  filled_operation v r (Member operand name) table = filled v Plain operand table
  filled_operation v r (Arrow operand name) table = filled v Plain operand table
  filled_operation v r (CompoundLit of braces) table = filled (scoped v Plain of) Plain braces (filled v Plain of table)
  filled_operation v r (Unary op operand) table = filled v Plain operand table
  filled_operation v r (SizeofType of) table = filled v Plain of table
  filled_operation v r (Cast to operand) table = filled (scoped v Plain to) Plain operand (filled v Plain to table)
  filled_operation v r (Binary op left right) table = filled (scoped v Plain left) Plain right (filled v Plain left table)
  filled_operation v r (Cond condition then otherwise) table = filled (scoped (scoped v Plain condition) Plain then) Plain otherwise (filled (scoped v Plain condition) Plain then (filled v Plain condition table))
  filled_operation v r (Assign op left right) table = filled (scoped v Plain left) Plain right (filled v Plain left table)

  pub filled_initializer : Scopes → Role → InitializerShape → Table → Table
  filled_initializer v r (Init name declarator initial) table = filled (scoped (scoped v r declarator) Plain name) Plain initial (filled (scoped v r declarator) Plain name (filled v r declarator table))
  filled_initializer v r (Braces elements comma) table = filled_each v Plain elements table
  filled_initializer v r (Designated designators initial) table = filled (scoped_each v Plain designators) Plain initial (filled_each v Plain designators table)

  pub filled_specifier : Scopes → Role → SpecifierShape → Table → Table
  filled_specifier v r (TypeName specs declarator) table = filled_maybe (scoped v Plain specs) Plain declarator (filled v Plain specs table)
  filled_specifier v r (Specs items) table = filled_each v (item_role r items) items table
  filled_specifier v r (StructTag which tag) table = table
  filled_specifier v r (StructBody which tag members) table = filled_each (body_opened v (sort_of which) tag) (Inside (body_number v (sort_of which) tag)) members table
  filled_specifier v r (EnumTag tag) table = table
  filled_specifier v r (EnumBody tag enumerators comma) table = filled_each (body_opened v Enums tag) Plain enumerators table
  filled_specifier v r (StructDeclaration specs declarators) table = filled_each (scoped v Plain specs) (roles.Member (owner_of r) (specified_type v specs)) declarators (filled v Plain specs table)
  filled_specifier v r (BitField declarator width) table = filled (scoped_maybe v r declarator) Plain width (filled_maybe v r declarator table)
  filled_specifier v r (Param specs declarator) table = filled_maybe (scoped v Plain specs) (Formal (specified_type v specs)) declarator (filled v Plain specs table)

  pub filled_declarator : Scopes → Role → DeclaratorShape → Table → Table
  filled_declarator v r (Named pointers name suffixes) table = filled_beside v (inner_role r) suffixes table
  filled_declarator v r (Nested pointers inner suffixes) table = filled_beside (scoped v (cond (is_bare inner) Plain (inner_role r)) inner) (cond (is_bare inner) (inner_role r) Plain) suffixes (filled v (cond (is_bare inner) Plain (inner_role r)) inner table)
  filled_declarator v r (Unnamed pointers suffixes) table = filled_each v Plain suffixes table

  pub filled_part : Scopes → Role → PartShape → Table → Table
  filled_part v r (SpecWord word) table = table
  filled_part v r (ArrayBound words bound) table = filled_maybe v Plain bound table
  filled_part v r VoidParams table = table
  filled_part v r (Params params variadic) table = filled_each (deeper v) Plain params table
  filled_part v r (Enumerator name value) table = filled_maybe v Plain value table
  filled_part v r (MemberDesignator member) table = table
  filled_part v r (IndexDesignator index) table = filled v Plain index table

  pub filled_outer : Scopes → Role → OuterShape → Table → Table
  filled_outer v r (Declaration specs declarators) table = filled_each (scoped v (specs_role declarators) specs) (Declares (storage_of specs) (specified_type v specs)) declarators (filled v (specs_role declarators) specs table)
  filled_outer v r (Function specs declarator block) table = filled (scoped (scoped v Plain specs) (Defines (storage_of specs) (specified_type v specs)) declarator) Body block (filled (scoped v Plain specs) (Defines (storage_of specs) (specified_type v specs)) declarator (filled v Plain specs table))
  filled_outer v r Empty table = table

  pub filled_statement : Scopes → Role → StatementShape → Table → Table
  filled_statement v r (Block items) table = filled_each (opened_block v r) Plain items table
  filled_statement v r (ExprStmt value) table = filled_maybe v Plain value table
  filled_statement v r (If condition then otherwise) table = filled_maybe (scoped (scoped v Plain condition) Plain then) Plain otherwise (filled (scoped v Plain condition) Plain then (filled v Plain condition table))
  filled_statement v r (Switch value inner) table = filled (scoped v Plain value) Plain inner (filled v Plain value table)
  filled_statement v r (Case value inner) table = filled (scoped v Plain value) Plain inner (filled v Plain value table)
  filled_statement v r (Default inner) table = filled v Plain inner table
  filled_statement v r (Label label inner) table = filled v Plain inner table

  pub filled_iteration : Scopes → Role → IterationShape → Table → Table
  filled_iteration v r (While condition inner) table = filled (scoped v Plain condition) Plain inner (filled v Plain condition table)
  filled_iteration v r (Do inner condition) table = filled (scoped v Plain inner) Plain condition (filled v Plain inner table)
  filled_iteration v r (For first condition step inner) table = filled (scoped_maybe (scoped_maybe (scoped_maybe v Plain first) Plain condition) Plain step) Plain inner (filled_maybe (scoped_maybe (scoped_maybe v Plain first) Plain condition) Plain step (filled_maybe (scoped_maybe v Plain first) Plain condition (filled_maybe v Plain first table)))
  filled_iteration v r (ForDeclaration declaration condition step inner) table = filled (scoped_maybe (scoped_maybe (scoped (deeper v) Plain declaration) Plain condition) Plain step) Plain inner (filled_maybe (scoped_maybe (scoped (deeper v) Plain declaration) Plain condition) Plain step (filled_maybe (scoped (deeper v) Plain declaration) Plain condition (filled (deeper v) Plain declaration table)))

  pub filled_jump : Scopes → Role → JumpShape → Table → Table
  filled_jump v r (Goto label) table = table
  filled_jump v r Continue table = table
  filled_jump v r Break table = table
  filled_jump v r (Return value) table = filled_maybe v Plain value table

  pub filled_maybe : Scopes → Role → MaybeNode → Table → Table
  filled_maybe v r absent table = table
  filled_maybe v r (present e) table = filled v r e table

  pub filled_each : Scopes → Role → Nodes → Table → Table
  filled_each v r no_more table = table
  filled_each v r (more e es) table = filled_each (scoped v r e) r es (filled v r e table)

  -- the first in this role
  pub filled_beside : Scopes → Role → Nodes → Table → Table
  filled_beside v r no_more table = table
  filled_beside v r (more e es) table = filled_beside (scoped v r e) Plain es (filled v r e table)
