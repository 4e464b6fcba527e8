-- Equal to the visit of `Order`, by the kinds of nodes.
-- The visit of a node, written out for each kind, as code goes through it: the first fault or the type.
use Rattle.std.specs.Prelude.{cond, Result, Ok}
use Rattle.c_tree.specs.declared.place.Place.{Place}
use Rattle.c_tree.specs.Node.{Node, node, Shape, Primary, Operation, Initializer, Specifier, Declarator, Part, Outer, Statement, Iteration, Jump, PrimaryShape, OperationShape, InitializerShape, SpecifierShape, DeclaratorShape, PartShape, OuterShape, StatementShape, IterationShape, JumpShape, Ident, Constant, StrConst, Paren, VaArg, Offsetof, Hole, Index, Call, Member, Arrow, CompoundLit, Unary, SizeofType, Cast, Binary, Cond, Assign, Init, Braces, Designated, TypeName, Specs, StructTag, StructBody, EnumTag, EnumBody, StructDeclaration, BitField, Param, Named, Nested, Unnamed, SpecWord, ArrayBound, VoidParams, Params, Enumerator, MemberDesignator, IndexDesignator, Declaration, Function, Empty, Block, ExprStmt, If, Switch, Case, Default, Label, While, Do, For, ForDeclaration, Goto, Continue, Break, Return, MaybeNode, absent, present, Nodes, no_more, more}
use Rattle.type_rules.specs.Constants.{constant_type, string_type}
use Rattle.type_rules.specs.Declarators.{is_bare, around_maybe, enumerator}
use Rattle.type_rules.specs.Faults.{Fault, NotPointer, NotFunction}
use Rattle.type_rules.specs.Moves.{opened_block, mention}
use Rattle.type_rules.specs.Options.{or_fault, unless_fault, ◌>>=◌}
use Rattle.type_rules.specs.Roles.{Role, Plain, Callee, Declares, Defines, Formal, Inside, Body, owner_of, inner_role, specs_role, item_role}
use Rattle.type_rules.specs.Roles as roles
use Rattle.type_rules.specs.Rows.{identifier, member, unary_row, if_lvalue, fine_unless, members_row, declarator_row, name_row}
use Rattle.type_rules.specs.Scopes.{Scopes, Enums, deeper}
use Rattle.type_rules.specs.Ways.ScopesByCase.{scoped, scoped_maybe, scoped_each, scoped_beside}
use Rattle.type_rules.specs.Specified.{specified_type, storage_of}
use Rattle.type_rules.specs.Tags.{sort_of, body_number, body_opened, body_fault, tag_fault}
use Rattle.type_rules.specs.Types.{CType, Void, size, indexed, called, element, combined, chosen}

abbrev mutual
  pub typed : Scopes → Role → Node → Result CType Fault
  typed v r (node i p s) = typed_shape v r p s

  pub typed_shape : Scopes → Role → Place → Shape → Result CType Fault
  typed_shape v r p (Primary k) = typed_primary v r p k
  typed_shape v r p (Operation k) = typed_operation v r p k
  typed_shape v r p (Initializer k) = typed_initializer v r p k
  typed_shape v r p (Specifier k) = typed_specifier v r p k
  typed_shape v r p (Declarator k) = typed_declarator v r p k
  typed_shape v r p (Part k) = typed_part v r p k
  typed_shape v r p (Outer k) = typed_outer v r p k
  typed_shape v r p (Statement k) = typed_statement v r p k
  typed_shape v r p (Iteration k) = typed_iteration v r p k
  typed_shape v r p (Jump k) = typed_jump v r p k

  pub typed_primary : Scopes → Role → Place → PrimaryShape → Result CType Fault
  typed_primary v r p (Ident name) = identifier v r p name
  typed_primary v r p (Constant token) = Ok (constant_type token.kind)
  typed_primary v r p (StrConst literals) = Ok (string_type literals)
  typed_primary v r p (Paren inner) = typed v Plain inner >>= λ t1. Ok t1
  typed_primary v r p (VaArg list of) = typed v Plain list >>= λ _. typed (scoped v Plain list) Plain of >>= λ t2. Ok t2
  typed_primary v r p (Offsetof of member path) = typed v Plain of >>= λ _. typed_each (scoped v Plain of) Plain path >>= λ _. Ok size
  typed_primary v r p (Hole number) = Ok Void

  pub typed_operation : Scopes → Role → Place → OperationShape → Result CType Fault
  typed_operation v r p (Index array index) =
      typed v Plain array >>= λ t1.
      typed (scoped v Plain array) Plain index >>= λ t2.
      or_fault (indexed t1 t2) (NotPointer p)
  typed_operation v r p (Call function paren arguments) =
      typed v Callee function >>= λ t1.
      typed_each (scoped v Callee function) Plain arguments >>= λ _.
      or_fault (called t1) (NotFunction p)
  typed_operation v r p (Member operand name) = typed v Plain operand >>= λ t1. member (scoped v Plain operand) p name t1
  typed_operation v r p (Arrow operand name) =
      typed v Plain operand >>= λ t1.
      or_fault (element t1) (NotPointer p) >>= λ t.
      member (scoped v Plain operand) p name t
  typed_operation v r p (CompoundLit of braces) = typed v Plain of >>= λ t1. typed (scoped v Plain of) Plain braces >>= λ _. Ok t1
  typed_operation v r p (Unary op operand) = typed v Plain operand >>= λ t1. unary_row v p op operand t1
  typed_operation v r p (SizeofType of) = typed v Plain of >>= λ _. Ok size
  typed_operation v r p (Cast to operand) = typed v Plain to >>= λ t1. typed (scoped v Plain to) Plain operand >>= λ _. Ok t1
  typed_operation v r p (Binary op left right) = typed v Plain left >>= λ t1. typed (scoped v Plain left) Plain right >>= λ t2. Ok (combined op t1 t2)
  typed_operation v r p (Cond condition then otherwise) =
      typed v Plain condition >>= λ _.
      typed (scoped v Plain condition) Plain then >>= λ t2.
      typed (scoped (scoped v Plain condition) Plain then) Plain otherwise >>= λ t3.
      Ok (chosen t2 t3)
  typed_operation v r p (Assign op left right) = typed v Plain left >>= λ t1. typed (scoped v Plain left) Plain right >>= λ _. if_lvalue v p left t1

  pub typed_initializer : Scopes → Role → Place → InitializerShape → Result CType Fault
  typed_initializer v r p (Init name declarator initial) =
      typed v r declarator >>= λ _.
      typed (scoped v r declarator) Plain name >>= λ t2.
      typed (scoped (scoped v r declarator) Plain name) Plain initial >>= λ _.
      Ok t2
  typed_initializer v r p (Braces elements comma) = typed_each v Plain elements >>= λ _. Ok Void
  typed_initializer v r p (Designated designators initial) =
      typed_each v Plain designators >>= λ _.
      typed (scoped_each v Plain designators) Plain initial >>= λ _.
      Ok Void

  pub typed_specifier : Scopes → Role → Place → SpecifierShape → Result CType Fault
  typed_specifier v r p (TypeName specs declarator) =
      typed v Plain specs >>= λ _.
      typed_maybe (scoped v Plain specs) Plain declarator >>= λ _.
      Ok (around_maybe declarator (specified_type v specs))
  typed_specifier v r p (Specs items) = typed_each v (item_role r items) items >>= λ _. Ok Void
  typed_specifier v r p (StructTag which tag) = fine_unless (tag_fault v (mention r) (sort_of which) tag)
  typed_specifier v r p (StructBody which tag members) = unless_fault (body_fault v (sort_of which) tag) (typed_each (body_opened v (sort_of which) tag) (Inside (body_number v (sort_of which) tag)) members >>= λ _. Ok Void)
  typed_specifier v r p (EnumTag tag) = fine_unless (tag_fault v (mention r) Enums tag)
  typed_specifier v r p (EnumBody tag enumerators comma) = unless_fault (body_fault v Enums tag) (typed_each (body_opened v Enums tag) Plain enumerators >>= λ _. Ok Void)
  typed_specifier v r p (StructDeclaration specs declarators) =
      typed v Plain specs >>= λ _.
      typed_each (scoped v Plain specs) (roles.Member (owner_of r) (specified_type v specs)) declarators >>= λ _.
      members_row v (scoped_each (scoped v Plain specs) (roles.Member (owner_of r) (specified_type v specs)) declarators) r specs declarators
  typed_specifier v r p (BitField declarator width) =
      typed_maybe v r declarator >>= λ _.
      typed (scoped_maybe v r declarator) Plain width >>= λ _.
      Ok Void
  typed_specifier v r p (Param specs declarator) =
      typed v Plain specs >>= λ _.
      typed_maybe (scoped v Plain specs) (Formal (specified_type v specs)) declarator >>= λ _.
      Ok Void

  pub typed_declarator : Scopes → Role → Place → DeclaratorShape → Result CType Fault
  typed_declarator v r p (Named pointers name suffixes) =
      typed_beside v (inner_role r) suffixes >>= λ _.
      declarator_row (scoped_beside v (inner_role r) suffixes) r p (Named pointers name suffixes)
  typed_declarator v r p (Nested pointers inner suffixes) =
      typed v (cond (is_bare inner) Plain (inner_role r)) inner >>= λ _.
      typed_beside (scoped v (cond (is_bare inner) Plain (inner_role r)) inner) (cond (is_bare inner) (inner_role r) Plain) suffixes >>= λ _.
      declarator_row (scoped_beside (scoped v (cond (is_bare inner) Plain (inner_role r)) inner) (cond (is_bare inner) (inner_role r) Plain) suffixes) r p (Nested pointers inner suffixes)
  typed_declarator v r p (Unnamed pointers suffixes) =
      typed_each v Plain suffixes >>= λ _.
      declarator_row (scoped_each v Plain suffixes) r p (Unnamed pointers suffixes)

  pub typed_part : Scopes → Role → Place → PartShape → Result CType Fault
  typed_part v r p (SpecWord word) = Ok Void
  typed_part v r p (ArrayBound words bound) = typed_maybe v Plain bound >>= λ _. Ok Void
  typed_part v r p VoidParams = Ok Void
  typed_part v r p (Params params variadic) = typed_each (deeper v) Plain params >>= λ _. Ok Void
  typed_part v r p (Enumerator name value) =
      typed_maybe v Plain value >>= λ _.
      name_row (scoped_maybe v Plain value) name.place (enumerator (scoped_maybe v Plain value) name)
  typed_part v r p (MemberDesignator member) = Ok Void
  typed_part v r p (IndexDesignator index) = typed v Plain index >>= λ _. Ok Void

  pub typed_outer : Scopes → Role → Place → OuterShape → Result CType Fault
  typed_outer v r p (Declaration specs declarators) =
      typed v (specs_role declarators) specs >>= λ _.
      typed_each (scoped v (specs_role declarators) specs) (Declares (storage_of specs) (specified_type v specs)) declarators >>= λ _.
      Ok Void
  typed_outer v r p (Function specs declarator block) =
      typed v Plain specs >>= λ _.
      typed (scoped v Plain specs) (Defines (storage_of specs) (specified_type v specs)) declarator >>= λ _.
      typed (scoped (scoped v Plain specs) (Defines (storage_of specs) (specified_type v specs)) declarator) Body block >>= λ _.
      Ok Void
  typed_outer v r p Empty = Ok Void

  pub typed_statement : Scopes → Role → Place → StatementShape → Result CType Fault
  typed_statement v r p (Block items) = typed_each (opened_block v r) Plain items >>= λ _. Ok Void
  typed_statement v r p (ExprStmt value) = typed_maybe v Plain value >>= λ _. Ok Void
  typed_statement v r p (If condition then otherwise) =
      typed v Plain condition >>= λ _.
      typed (scoped v Plain condition) Plain then >>= λ _.
      typed_maybe (scoped (scoped v Plain condition) Plain then) Plain otherwise >>= λ _.
      Ok Void
  typed_statement v r p (Switch value inner) = typed v Plain value >>= λ _. typed (scoped v Plain value) Plain inner >>= λ _. Ok Void
  typed_statement v r p (Case value inner) = typed v Plain value >>= λ _. typed (scoped v Plain value) Plain inner >>= λ _. Ok Void
  typed_statement v r p (Default inner) = typed v Plain inner >>= λ _. Ok Void
  typed_statement v r p (Label label inner) = typed v Plain inner >>= λ _. Ok Void

  pub typed_iteration : Scopes → Role → Place → IterationShape → Result CType Fault
  typed_iteration v r p (While condition inner) = typed v Plain condition >>= λ _. typed (scoped v Plain condition) Plain inner >>= λ _. Ok Void
  typed_iteration v r p (Do inner condition) = typed v Plain inner >>= λ _. typed (scoped v Plain inner) Plain condition >>= λ _. Ok Void
  typed_iteration v r p (For first condition step inner) =
      typed_maybe v Plain first >>= λ _.
      typed_maybe (scoped_maybe v Plain first) Plain condition >>= λ _.
      typed_maybe (scoped_maybe (scoped_maybe v Plain first) Plain condition) Plain step >>= λ _.
      typed (scoped_maybe (scoped_maybe (scoped_maybe v Plain first) Plain condition) Plain step) Plain inner >>= λ _.
      Ok Void
  typed_iteration v r p (ForDeclaration declaration condition step inner) =
      typed (deeper v) Plain declaration >>= λ _.
      typed_maybe (scoped (deeper v) Plain declaration) Plain condition >>= λ _.
      typed_maybe (scoped_maybe (scoped (deeper v) Plain declaration) Plain condition) Plain step >>= λ _.
      typed (scoped_maybe (scoped_maybe (scoped (deeper v) Plain declaration) Plain condition) Plain step) Plain inner >>= λ _.
      Ok Void

  pub typed_jump : Scopes → Role → Place → JumpShape → Result CType Fault
  typed_jump v r p (Goto label) = Ok Void
  typed_jump v r p Continue = Ok Void
  typed_jump v r p Break = Ok Void
  typed_jump v r p (Return value) = typed_maybe v Plain value >>= λ _. Ok Void

  pub typed_maybe : Scopes → Role → MaybeNode → Result CType Fault
  typed_maybe v r absent = Ok Void
  typed_maybe v r (present e) = typed v r e

  pub typed_each : Scopes → Role → Nodes → Result CType Fault
  typed_each v r no_more = Ok Void
  typed_each v r (more e es) = typed v r e >>= λ _. typed_each (scoped v r e) r es

  -- the first in this role
  pub typed_beside : Scopes → Role → Nodes → Result CType Fault
  typed_beside v r no_more = Ok Void
  typed_beside v r (more e es) = typed v r e >>= λ _. typed_beside (scoped v r e) Plain es
