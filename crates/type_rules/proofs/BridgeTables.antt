-- The table that is written out for each kind is the one that the visit fills.
use Rattle.std.proofs.Common.{◌≡◌, ℕ, cond, Result, ap, refl, ◌∙◌}
use Rattle.c_tree.specs.Node.{Node, node, Shape, Primary, Operation, Initializer, Specifier, Declarator, Part, Outer, Statement, Iteration, Jump, PrimaryShape, OperationShape, InitializerShape, SpecifierShape, DeclaratorShape, PartShape, OuterShape, StatementShape, IterationShape, JumpShape, Ident, Constant, StrConst, Paren, VaArg, Offsetof, Hole, Index, Call, Member, Arrow, CompoundLit, Unary, SizeofType, Cast, Binary, Cond, Assign, Init, Braces, Designated, TypeName, Specs, StructTag, StructBody, EnumTag, EnumBody, StructDeclaration, BitField, Param, Named, Nested, Unnamed, SpecWord, ArrayBound, VoidParams, Params, Enumerator, MemberDesignator, IndexDesignator, Declaration, Function, Empty, Block, ExprStmt, If, Switch, Case, Default, Label, While, Do, For, ForDeclaration, Goto, Continue, Break, Return, MaybeNode, absent, present, Nodes, no_more, more}
use Rattle.type_rules.specs.Declarators.{is_bare}
use Rattle.type_rules.specs.Definition.{Table}
use Rattle.type_rules.specs.Faults.{Fault}
use Rattle.type_rules.specs.Moves.{opened, opened_block}
use Rattle.type_rules.specs.Order.{put_kept, fill, fill_all}
use Rattle.type_rules.specs.Parts.{Slot, plain, callee, same, specs_of, item_of, declared_by, defined_by, formal_by, member_by, beside_name, toward, beside, inside, body, Parts, none, part, flat, parts, maybe, each, first_in, primary_parts, operation_parts, initializer_parts, specifier_parts, declarator_parts, part_parts, outer_parts, statement_parts, iteration_parts, jump_parts}
use Rattle.type_rules.specs.Roles.{Role, Plain, Callee, Defines, Body, inner_role, specs_role, given}
use Rattle.type_rules.specs.Rows.{keeps, var_of}
use Rattle.type_rules.specs.Scopes.{Scopes, Enums, deeper}
use Rattle.type_rules.specs.Ways.ScopesByCase.{scoped, scoped_maybe, scoped_each}
use Rattle.type_rules.specs.Specified.{specified_type, storage_of}
use Rattle.type_rules.specs.Ways.TablesByCase.{filled, filled_shape, filled_maybe, filled_each, filled_beside, filled_primary, filled_operation, filled_initializer, filled_specifier, filled_declarator, filled_part, filled_outer, filled_statement, filled_iteration, filled_jump}
use Rattle.type_rules.specs.Tags.{sort_of, body_opened}
use Rattle.type_rules.specs.Types.{CType}
use Rattle.type_rules.proofs.BridgeScopes.{scoped-flat, within-flat}
use Rattle.type_rules.proofs.BridgeTypes.{typed_shape-flat}

-- one part, and then the others
next : (roles : Slot → Role) (slot : Slot) (v : Scopes) (e : Node) (es : Parts) (table : Table) → fill v (roles slot) (flat e) table ≡ filled v (roles slot) e table → fill_all roles v (part slot (flat e) es) table ≡ fill_all roles (scoped v (roles slot) e) es (filled v (roles slot) e table)
next roles slot v e es table h = ap (λ w. fill_all roles w es (fill v (roles slot) (flat e) table)) (scoped-flat v (roles slot) e) ∙ ap (λ t. fill_all roles (scoped v (roles slot) e) es t) h

-- all in one role
beside-plain : (v : Scopes) (es : Nodes) (table : Table) → filled_each v Plain es table ≡ filled_beside v Plain es table
beside-plain v no_more table = refl
beside-plain v (more e es) table = beside-plain (scoped v Plain e) es (filled v Plain e table)

put-same : (v : Scopes) (r : Role) (s : Shape) (i : ℕ) {w u : Scopes} {a b : Result CType Fault} {x y : Table} → w ≡ u → a ≡ b → x ≡ y → put_kept (keeps w r s) i (var_of v w r s) a x ≡ put_kept (keeps u r s) i (var_of v u r s) b y
put-same v r s i {w} {u} {a} {b} {x} {y} h k l =
    ap (λ z. put_kept (keeps z r s) i (var_of v z r s) a x) h
    ∙ ap (λ z. put_kept (keeps u r s) i (var_of v u r s) z x) k
    ∙ ap (λ z. put_kept (keeps u r s) i (var_of v u r s) b z) l

mutual
  pub filled-flat : (v : Scopes) (r : Role) (e : Node) (table : Table) → fill v r (flat e) table ≡ filled v r e table
  filled-flat v r (node i p s) table = put-same v r s i (within-flat v r s) (typed_shape-flat v r i p s) (filled_shape-flat v r s table)

  filled_shape-flat : (v : Scopes) (r : Role) (s : Shape) (table : Table) → fill_all (given v r) (opened v r s) (parts s) table ≡ filled_shape v r s table
  filled_shape-flat v r (Primary k) table = filled_primary-flat v r k table
  filled_shape-flat v r (Operation k) table = filled_operation-flat v r k table
  filled_shape-flat v r (Initializer k) table = filled_initializer-flat v r k table
  filled_shape-flat v r (Specifier k) table = filled_specifier-flat v r k table
  filled_shape-flat v r (Declarator k) table = filled_declarator-flat v r k table
  filled_shape-flat v r (Part k) table = filled_part-flat v r k table
  filled_shape-flat v r (Outer k) table = filled_outer-flat v r k table
  filled_shape-flat v r (Statement k) table = filled_statement-flat v r k table
  filled_shape-flat v r (Iteration k) table = filled_iteration-flat v r k table
  filled_shape-flat v r (Jump k) table = filled_jump-flat v r k table

  filled_primary-flat : (v : Scopes) (r : Role) (k : PrimaryShape) (table : Table) → fill_all (given v r) (opened v r (Primary k)) (primary_parts k) table ≡ filled_primary v r k table
  filled_primary-flat v r (Ident name) table = refl
  filled_primary-flat v r (Constant token) table = refl
  filled_primary-flat v r (StrConst literals) table = refl
  filled_primary-flat v r (Paren inner) table = next (given v r) plain v inner none table (filled-flat v Plain inner table)
  filled_primary-flat v r (VaArg list of) table = next (given v r) plain v list (part plain (flat of) none) table (filled-flat v Plain list table)
      ∙ next (given v r) plain (scoped v Plain list) of none (filled v Plain list table) (filled-flat (scoped v Plain list) Plain of (filled v Plain list table))
  filled_primary-flat v r (Offsetof of member path) table = next (given v r) plain v of (each plain path none) table (filled-flat v Plain of table)
      ∙ each-flat (given v r) plain (scoped v Plain of) path none (filled v Plain of table)
  filled_primary-flat v r (Hole number) table = refl

  filled_operation-flat : (v : Scopes) (r : Role) (k : OperationShape) (table : Table) → fill_all (given v r) (opened v r (Operation k)) (operation_parts k) table ≡ filled_operation v r k table
  filled_operation-flat v r (Index array index) table = next (given v r) plain v array (part plain (flat index) none) table (filled-flat v Plain array table)
      ∙ next (given v r) plain (scoped v Plain array) index none (filled v Plain array table) (filled-flat (scoped v Plain array) Plain index (filled v Plain array table))
  filled_operation-flat v r (Call function paren arguments) table = next (given v r) callee v function (each plain arguments none) table (filled-flat v Callee function table)
      ∙ each-flat (given v r) plain (scoped v Callee function) arguments none (filled v Callee function table)
  filled_operation-flat v r (Member operand name) table = next (given v r) plain v operand none table (filled-flat v Plain operand table)
  filled_operation-flat v r (Arrow operand name) table = next (given v r) plain v operand none table (filled-flat v Plain operand table)
  filled_operation-flat v r (CompoundLit of braces) table = next (given v r) plain v of (part plain (flat braces) none) table (filled-flat v Plain of table)
      ∙ next (given v r) plain (scoped v Plain of) braces none (filled v Plain of table) (filled-flat (scoped v Plain of) Plain braces (filled v Plain of table))
  filled_operation-flat v r (Unary op operand) table = next (given v r) plain v operand none table (filled-flat v Plain operand table)
  filled_operation-flat v r (SizeofType of) table = next (given v r) plain v of none table (filled-flat v Plain of table)
  filled_operation-flat v r (Cast to operand) table = next (given v r) plain v to (part plain (flat operand) none) table (filled-flat v Plain to table)
      ∙ next (given v r) plain (scoped v Plain to) operand none (filled v Plain to table) (filled-flat (scoped v Plain to) Plain operand (filled v Plain to table))
  filled_operation-flat v r (Binary op left right) table = next (given v r) plain v left (part plain (flat right) none) table (filled-flat v Plain left table)
      ∙ next (given v r) plain (scoped v Plain left) right none (filled v Plain left table) (filled-flat (scoped v Plain left) Plain right (filled v Plain left table))
  filled_operation-flat v r (Cond condition then otherwise) table = next (given v r) plain v condition (part plain (flat then) (part plain (flat otherwise) none)) table (filled-flat v Plain condition table)
      ∙ next (given v r) plain (scoped v Plain condition) then (part plain (flat otherwise) none) (filled v Plain condition table) (filled-flat (scoped v Plain condition) Plain then (filled v Plain condition table))
      ∙ next (given v r) plain (scoped (scoped v Plain condition) Plain then) otherwise none (filled (scoped v Plain condition) Plain then (filled v Plain condition table)) (filled-flat (scoped (scoped v Plain condition) Plain then) Plain otherwise (filled (scoped v Plain condition) Plain then (filled v Plain condition table)))
  filled_operation-flat v r (Assign op left right) table = next (given v r) plain v left (part plain (flat right) none) table (filled-flat v Plain left table)
      ∙ next (given v r) plain (scoped v Plain left) right none (filled v Plain left table) (filled-flat (scoped v Plain left) Plain right (filled v Plain left table))

  filled_initializer-flat : (v : Scopes) (r : Role) (k : InitializerShape) (table : Table) → fill_all (given v r) (opened v r (Initializer k)) (initializer_parts k) table ≡ filled_initializer v r k table
  filled_initializer-flat v r (Init name declarator initial) table = next (given v r) same v declarator (part plain (flat name) (part plain (flat initial) none)) table (filled-flat v r declarator table)
      ∙ next (given v r) plain (scoped v r declarator) name (part plain (flat initial) none) (filled v r declarator table) (filled-flat (scoped v r declarator) Plain name (filled v r declarator table))
      ∙ next (given v r) plain (scoped (scoped v r declarator) Plain name) initial none (filled (scoped v r declarator) Plain name (filled v r declarator table)) (filled-flat (scoped (scoped v r declarator) Plain name) Plain initial (filled (scoped v r declarator) Plain name (filled v r declarator table)))
  filled_initializer-flat v r (Braces elements comma) table = each-flat (given v r) plain v elements none table
  filled_initializer-flat v r (Designated designators initial) table = each-flat (given v r) plain v designators (part plain (flat initial) none) table
      ∙ next (given v r) plain (scoped_each v Plain designators) initial none (filled_each v Plain designators table) (filled-flat (scoped_each v Plain designators) Plain initial (filled_each v Plain designators table))

  filled_specifier-flat : (v : Scopes) (r : Role) (k : SpecifierShape) (table : Table) → fill_all (given v r) (opened v r (Specifier k)) (specifier_parts k) table ≡ filled_specifier v r k table
  filled_specifier-flat v r (TypeName specs declarator) table = next (given v r) plain v specs (maybe plain declarator none) table (filled-flat v Plain specs table)
      ∙ maybe-flat (given v r) plain (scoped v Plain specs) declarator none (filled v Plain specs table)
  filled_specifier-flat v r (Specs items) table = each-flat (given v r) (item_of items) v items none table
  filled_specifier-flat v r (StructTag which tag) table = refl
  filled_specifier-flat v r (StructBody which tag members) table = each-flat (given v r) (inside which tag) (body_opened v (sort_of which) tag) members none table
  filled_specifier-flat v r (EnumTag tag) table = refl
  filled_specifier-flat v r (EnumBody tag enumerators comma) table = each-flat (given v r) plain (body_opened v Enums tag) enumerators none table
  filled_specifier-flat v r (StructDeclaration specs declarators) table = next (given v r) plain v specs (each (member_by specs) declarators none) table (filled-flat v Plain specs table)
      ∙ each-flat (given v r) (member_by specs) (scoped v Plain specs) declarators none (filled v Plain specs table)
  filled_specifier-flat v r (BitField declarator width) table = maybe-flat (given v r) same v declarator (part plain (flat width) none) table
      ∙ next (given v r) plain (scoped_maybe v r declarator) width none (filled_maybe v r declarator table) (filled-flat (scoped_maybe v r declarator) Plain width (filled_maybe v r declarator table))
  filled_specifier-flat v r (Param specs declarator) table = next (given v r) plain v specs (maybe (formal_by specs) declarator none) table (filled-flat v Plain specs table)
      ∙ maybe-flat (given v r) (formal_by specs) (scoped v Plain specs) declarator none (filled v Plain specs table)

  filled_declarator-flat : (v : Scopes) (r : Role) (k : DeclaratorShape) (table : Table) → fill_all (given v r) (opened v r (Declarator k)) (declarator_parts k) table ≡ filled_declarator v r k table
  filled_declarator-flat v r (Named pointers name suffixes) table = beside-flat (given v r) beside_name v suffixes table refl
  filled_declarator-flat v r (Nested pointers inner suffixes) table = next (given v r) (toward inner) v inner (first_in (beside inner) suffixes) table (filled-flat v (cond (is_bare inner) Plain (inner_role r)) inner table)
      ∙ beside-flat (given v r) (beside inner) (scoped v (cond (is_bare inner) Plain (inner_role r)) inner) suffixes (filled v (cond (is_bare inner) Plain (inner_role r)) inner table) refl
  filled_declarator-flat v r (Unnamed pointers suffixes) table = each-flat (given v r) plain v suffixes none table

  filled_part-flat : (v : Scopes) (r : Role) (k : PartShape) (table : Table) → fill_all (given v r) (opened v r (Part k)) (part_parts k) table ≡ filled_part v r k table
  filled_part-flat v r (SpecWord word) table = refl
  filled_part-flat v r (ArrayBound words bound) table = maybe-flat (given v r) plain v bound none table
  filled_part-flat v r VoidParams table = refl
  filled_part-flat v r (Params params variadic) table = each-flat (given v r) plain (deeper v) params none table
  filled_part-flat v r (Enumerator name value) table = maybe-flat (given v r) plain v value none table
  filled_part-flat v r (MemberDesignator member) table = refl
  filled_part-flat v r (IndexDesignator index) table = next (given v r) plain v index none table (filled-flat v Plain index table)

  filled_outer-flat : (v : Scopes) (r : Role) (k : OuterShape) (table : Table) → fill_all (given v r) (opened v r (Outer k)) (outer_parts k) table ≡ filled_outer v r k table
  filled_outer-flat v r (Declaration specs declarators) table = next (given v r) (specs_of declarators) v specs (each (declared_by specs) declarators none) table (filled-flat v (specs_role declarators) specs table)
      ∙ each-flat (given v r) (declared_by specs) (scoped v (specs_role declarators) specs) declarators none (filled v (specs_role declarators) specs table)
  filled_outer-flat v r (Function specs declarator block) table = next (given v r) plain v specs (part (defined_by specs) (flat declarator) (part body (flat block) none)) table (filled-flat v Plain specs table)
      ∙ next (given v r) (defined_by specs) (scoped v Plain specs) declarator (part body (flat block) none) (filled v Plain specs table) (filled-flat (scoped v Plain specs) (Defines (storage_of specs) (specified_type v specs)) declarator (filled v Plain specs table))
      ∙ next (given v r) body (scoped (scoped v Plain specs) (Defines (storage_of specs) (specified_type v specs)) declarator) block none (filled (scoped v Plain specs) (Defines (storage_of specs) (specified_type v specs)) declarator (filled v Plain specs table)) (filled-flat (scoped (scoped v Plain specs) (Defines (storage_of specs) (specified_type v specs)) declarator) Body block (filled (scoped v Plain specs) (Defines (storage_of specs) (specified_type v specs)) declarator (filled v Plain specs table)))
  filled_outer-flat v r Empty table = refl

  filled_statement-flat : (v : Scopes) (r : Role) (k : StatementShape) (table : Table) → fill_all (given v r) (opened v r (Statement k)) (statement_parts k) table ≡ filled_statement v r k table
  filled_statement-flat v r (Block items) table = each-flat (given v r) plain (opened_block v r) items none table
  filled_statement-flat v r (ExprStmt value) table = maybe-flat (given v r) plain v value none table
  filled_statement-flat v r (If condition then otherwise) table = next (given v r) plain v condition (part plain (flat then) (maybe plain otherwise none)) table (filled-flat v Plain condition table)
      ∙ next (given v r) plain (scoped v Plain condition) then (maybe plain otherwise none) (filled v Plain condition table) (filled-flat (scoped v Plain condition) Plain then (filled v Plain condition table))
      ∙ maybe-flat (given v r) plain (scoped (scoped v Plain condition) Plain then) otherwise none (filled (scoped v Plain condition) Plain then (filled v Plain condition table))
  filled_statement-flat v r (Switch value inner) table = next (given v r) plain v value (part plain (flat inner) none) table (filled-flat v Plain value table)
      ∙ next (given v r) plain (scoped v Plain value) inner none (filled v Plain value table) (filled-flat (scoped v Plain value) Plain inner (filled v Plain value table))
  filled_statement-flat v r (Case value inner) table = next (given v r) plain v value (part plain (flat inner) none) table (filled-flat v Plain value table)
      ∙ next (given v r) plain (scoped v Plain value) inner none (filled v Plain value table) (filled-flat (scoped v Plain value) Plain inner (filled v Plain value table))
  filled_statement-flat v r (Default inner) table = next (given v r) plain v inner none table (filled-flat v Plain inner table)
  filled_statement-flat v r (Label label inner) table = next (given v r) plain v inner none table (filled-flat v Plain inner table)

  filled_iteration-flat : (v : Scopes) (r : Role) (k : IterationShape) (table : Table) → fill_all (given v r) (opened v r (Iteration k)) (iteration_parts k) table ≡ filled_iteration v r k table
  filled_iteration-flat v r (While condition inner) table = next (given v r) plain v condition (part plain (flat inner) none) table (filled-flat v Plain condition table)
      ∙ next (given v r) plain (scoped v Plain condition) inner none (filled v Plain condition table) (filled-flat (scoped v Plain condition) Plain inner (filled v Plain condition table))
  filled_iteration-flat v r (Do inner condition) table = next (given v r) plain v inner (part plain (flat condition) none) table (filled-flat v Plain inner table)
      ∙ next (given v r) plain (scoped v Plain inner) condition none (filled v Plain inner table) (filled-flat (scoped v Plain inner) Plain condition (filled v Plain inner table))
  filled_iteration-flat v r (For first condition step inner) table = maybe-flat (given v r) plain v first (maybe plain condition (maybe plain step (part plain (flat inner) none))) table
      ∙ maybe-flat (given v r) plain (scoped_maybe v Plain first) condition (maybe plain step (part plain (flat inner) none)) (filled_maybe v Plain first table)
      ∙ maybe-flat (given v r) plain (scoped_maybe (scoped_maybe v Plain first) Plain condition) step (part plain (flat inner) none) (filled_maybe (scoped_maybe v Plain first) Plain condition (filled_maybe v Plain first table))
      ∙ next (given v r) plain (scoped_maybe (scoped_maybe (scoped_maybe v Plain first) Plain condition) Plain step) inner none (filled_maybe (scoped_maybe (scoped_maybe v Plain first) Plain condition) Plain step (filled_maybe (scoped_maybe v Plain first) Plain condition (filled_maybe v Plain first table))) (filled-flat (scoped_maybe (scoped_maybe (scoped_maybe v Plain first) Plain condition) Plain step) Plain inner (filled_maybe (scoped_maybe (scoped_maybe v Plain first) Plain condition) Plain step (filled_maybe (scoped_maybe v Plain first) Plain condition (filled_maybe v Plain first table))))
  filled_iteration-flat v r (ForDeclaration declaration condition step inner) table = next (given v r) plain (deeper v) declaration (maybe plain condition (maybe plain step (part plain (flat inner) none))) table (filled-flat (deeper v) Plain declaration table)
      ∙ maybe-flat (given v r) plain (scoped (deeper v) Plain declaration) condition (maybe plain step (part plain (flat inner) none)) (filled (deeper v) Plain declaration table)
      ∙ maybe-flat (given v r) plain (scoped_maybe (scoped (deeper v) Plain declaration) Plain condition) step (part plain (flat inner) none) (filled_maybe (scoped (deeper v) Plain declaration) Plain condition (filled (deeper v) Plain declaration table))
      ∙ next (given v r) plain (scoped_maybe (scoped_maybe (scoped (deeper v) Plain declaration) Plain condition) Plain step) inner none (filled_maybe (scoped_maybe (scoped (deeper v) Plain declaration) Plain condition) Plain step (filled_maybe (scoped (deeper v) Plain declaration) Plain condition (filled (deeper v) Plain declaration table))) (filled-flat (scoped_maybe (scoped_maybe (scoped (deeper v) Plain declaration) Plain condition) Plain step) Plain inner (filled_maybe (scoped_maybe (scoped (deeper v) Plain declaration) Plain condition) Plain step (filled_maybe (scoped (deeper v) Plain declaration) Plain condition (filled (deeper v) Plain declaration table))))

  filled_jump-flat : (v : Scopes) (r : Role) (k : JumpShape) (table : Table) → fill_all (given v r) (opened v r (Jump k)) (jump_parts k) table ≡ filled_jump v r k table
  filled_jump-flat v r (Goto label) table = refl
  filled_jump-flat v r Continue table = refl
  filled_jump-flat v r Break table = refl
  filled_jump-flat v r (Return value) table = maybe-flat (given v r) plain v value none table

  maybe-flat : (roles : Slot → Role) (slot : Slot) (v : Scopes) (m : MaybeNode) (rest : Parts) (table : Table) → fill_all roles v (maybe slot m rest) table ≡ fill_all roles (scoped_maybe v (roles slot) m) rest (filled_maybe v (roles slot) m table)
  maybe-flat roles slot v absent rest table = refl
  maybe-flat roles slot v (present e) rest table = next roles slot v e rest table (filled-flat v (roles slot) e table)

  pub each-flat : (roles : Slot → Role) (slot : Slot) (v : Scopes) (es : Nodes) (rest : Parts) (table : Table) → fill_all roles v (each slot es rest) table ≡ fill_all roles (scoped_each v (roles slot) es) rest (filled_each v (roles slot) es table)
  each-flat roles slot v no_more rest table = refl
  each-flat roles slot v (more e es) rest table = next roles slot v e (each slot es rest) table (filled-flat v (roles slot) e table) ∙ each-flat roles slot (scoped v (roles slot) e) es rest (filled v (roles slot) e table)

  beside-flat : (roles : Slot → Role) (slot : Slot) (v : Scopes) (es : Nodes) (table : Table) → roles plain ≡ Plain → fill_all roles v (first_in slot es) table ≡ filled_beside v (roles slot) es table
  beside-flat roles slot v no_more table h = refl
  beside-flat roles slot v (more e es) table h =
      next roles slot v e (each plain es none) table (filled-flat v (roles slot) e table)
      ∙ each-flat roles plain (scoped v (roles slot) e) es none (filled v (roles slot) e table)
      ∙ ap (λ r. filled_each (scoped v (roles slot) e) r es (filled v (roles slot) e table)) h
      ∙ beside-plain (scoped v (roles slot) e) es (filled v (roles slot) e table)
