-- The scopes that are written out for each kind are those that are defined.
use Rattle.std.proofs.Common.{◌≡◌, cond, ap, refl, ◌∙◌}
use Rattle.c_tree.specs.Node.{Node, node, Shape, Primary, Operation, Initializer, Specifier, Declarator, Part, Outer, Statement, Iteration, Jump, PrimaryShape, OperationShape, InitializerShape, SpecifierShape, DeclaratorShape, PartShape, OuterShape, StatementShape, IterationShape, JumpShape, Ident, Constant, StrConst, Paren, VaArg, Offsetof, Hole, Index, Call, Member, Arrow, CompoundLit, Unary, SizeofType, Cast, Binary, Cond, Assign, Init, Braces, Designated, TypeName, Specs, StructTag, StructBody, EnumTag, EnumBody, StructDeclaration, BitField, Param, Named, Nested, Unnamed, SpecWord, ArrayBound, VoidParams, Params, Enumerator, MemberDesignator, IndexDesignator, Declaration, Function, Empty, Block, ExprStmt, If, Switch, Case, Default, Label, While, Do, For, ForDeclaration, Goto, Continue, Break, Return, MaybeNode, absent, present, Nodes, no_more, more}
use Rattle.type_rules.specs.Declarators.{is_bare}
use Rattle.type_rules.specs.Definition.{after, after_all}
use Rattle.type_rules.specs.Moves.{opened, opened_block, closed}
use Rattle.type_rules.specs.Parts.{Slot, plain, callee, same, specs_of, item_of, declared_by, defined_by, formal_by, member_by, beside_name, toward, beside, inside, body, Parts, none, part, flat, parts, maybe, each, first_in, primary_parts, operation_parts, initializer_parts, specifier_parts, declarator_parts, part_parts, outer_parts, statement_parts, iteration_parts, jump_parts}
use Rattle.type_rules.specs.Roles.{Role, Plain, Callee, Defines, Body, inner_role, specs_role, given}
use Rattle.type_rules.specs.Scopes.{Scopes, Enums, deeper}
use Rattle.type_rules.specs.Ways.ScopesByCase.{scoped, within, scoped_maybe, scoped_each, scoped_beside, within_primary, within_operation, within_initializer, within_specifier, within_declarator, within_part, within_outer, within_statement, within_iteration, within_jump}
use Rattle.type_rules.specs.Specified.{specified_type, storage_of}
use Rattle.type_rules.specs.Tags.{sort_of, body_opened}

-- behind one part, and then the others
next : (roles : Slot → Role) (slot : Slot) (v : Scopes) (e : Node) (es : Parts) → after v (roles slot) (flat e) ≡ scoped v (roles slot) e → after_all roles v (part slot (flat e) es) ≡ after_all roles (scoped v (roles slot) e) es
next roles slot v e es h = ap (λ w. after_all roles w es) h

-- all in one role
pub beside-plain : (v : Scopes) (es : Nodes) → scoped_each v Plain es ≡ scoped_beside v Plain es
beside-plain v no_more = refl
beside-plain v (more e es) = beside-plain (scoped v Plain e) es

mutual
  pub scoped-flat : (v : Scopes) (r : Role) (e : Node) → after v r (flat e) ≡ scoped v r e
  scoped-flat v r (node i p s) = ap (closed v r s) (within-flat v r s)

  pub within-flat : (v : Scopes) (r : Role) (s : Shape) → after_all (given v r) (opened v r s) (parts s) ≡ within v r s
  within-flat v r (Primary k) = within_primary-flat v r k
  within-flat v r (Operation k) = within_operation-flat v r k
  within-flat v r (Initializer k) = within_initializer-flat v r k
  within-flat v r (Specifier k) = within_specifier-flat v r k
  within-flat v r (Declarator k) = within_declarator-flat v r k
  within-flat v r (Part k) = within_part-flat v r k
  within-flat v r (Outer k) = within_outer-flat v r k
  within-flat v r (Statement k) = within_statement-flat v r k
  within-flat v r (Iteration k) = within_iteration-flat v r k
  within-flat v r (Jump k) = within_jump-flat v r k

  within_primary-flat : (v : Scopes) (r : Role) (k : PrimaryShape) → after_all (given v r) (opened v r (Primary k)) (primary_parts k) ≡ within_primary v r k
  within_primary-flat v r (Ident name) = refl
  within_primary-flat v r (Constant token) = refl
  within_primary-flat v r (StrConst literals) = refl
  within_primary-flat v r (Paren inner) = next (given v r) plain v inner none (scoped-flat v Plain inner)
  within_primary-flat v r (VaArg list of) = next (given v r) plain v list (part plain (flat of) none) (scoped-flat v Plain list)
      ∙ next (given v r) plain (scoped v Plain list) of none (scoped-flat (scoped v Plain list) Plain of)
  within_primary-flat v r (Offsetof of member path) = next (given v r) plain v of (each plain path none) (scoped-flat v Plain of)
      ∙ each-flat (given v r) plain (scoped v Plain of) path none
  within_primary-flat v r (Hole number) = refl

  within_operation-flat : (v : Scopes) (r : Role) (k : OperationShape) → after_all (given v r) (opened v r (Operation k)) (operation_parts k) ≡ within_operation v r k
  within_operation-flat v r (Index array index) = next (given v r) plain v array (part plain (flat index) none) (scoped-flat v Plain array)
      ∙ next (given v r) plain (scoped v Plain array) index none (scoped-flat (scoped v Plain array) Plain index)
  within_operation-flat v r (Call function paren arguments) = next (given v r) callee v function (each plain arguments none) (scoped-flat v Callee function)
      ∙ each-flat (given v r) plain (scoped v Callee function) arguments none
  within_operation-flat v r (Member operand name) = next (given v r) plain v operand none (scoped-flat v Plain operand)
  within_operation-flat v r (Arrow operand name) = next (given v r) plain v operand none (scoped-flat v Plain operand)
  within_operation-flat v r (CompoundLit of braces) = next (given v r) plain v of (part plain (flat braces) none) (scoped-flat v Plain of)
      ∙ next (given v r) plain (scoped v Plain of) braces none (scoped-flat (scoped v Plain of) Plain braces)
  within_operation-flat v r (Unary op operand) = next (given v r) plain v operand none (scoped-flat v Plain operand)
  within_operation-flat v r (SizeofType of) = next (given v r) plain v of none (scoped-flat v Plain of)
  within_operation-flat v r (Cast to operand) = next (given v r) plain v to (part plain (flat operand) none) (scoped-flat v Plain to)
      ∙ next (given v r) plain (scoped v Plain to) operand none (scoped-flat (scoped v Plain to) Plain operand)
  within_operation-flat v r (Binary op left right) = next (given v r) plain v left (part plain (flat right) none) (scoped-flat v Plain left)
      ∙ next (given v r) plain (scoped v Plain left) right none (scoped-flat (scoped v Plain left) Plain right)
  within_operation-flat v r (Cond condition then otherwise) = next (given v r) plain v condition (part plain (flat then) (part plain (flat otherwise) none)) (scoped-flat v Plain condition)
      ∙ next (given v r) plain (scoped v Plain condition) then (part plain (flat otherwise) none) (scoped-flat (scoped v Plain condition) Plain then)
      ∙ next (given v r) plain (scoped (scoped v Plain condition) Plain then) otherwise none (scoped-flat (scoped (scoped v Plain condition) Plain then) Plain otherwise)
  within_operation-flat v r (Assign op left right) = next (given v r) plain v left (part plain (flat right) none) (scoped-flat v Plain left)
      ∙ next (given v r) plain (scoped v Plain left) right none (scoped-flat (scoped v Plain left) Plain right)

  within_initializer-flat : (v : Scopes) (r : Role) (k : InitializerShape) → after_all (given v r) (opened v r (Initializer k)) (initializer_parts k) ≡ within_initializer v r k
  within_initializer-flat v r (Init name declarator initial) = next (given v r) same v declarator (part plain (flat name) (part plain (flat initial) none)) (scoped-flat v r declarator)
      ∙ next (given v r) plain (scoped v r declarator) name (part plain (flat initial) none) (scoped-flat (scoped v r declarator) Plain name)
      ∙ next (given v r) plain (scoped (scoped v r declarator) Plain name) initial none (scoped-flat (scoped (scoped v r declarator) Plain name) Plain initial)
  within_initializer-flat v r (Braces elements comma) = each-flat (given v r) plain v elements none
  within_initializer-flat v r (Designated designators initial) = each-flat (given v r) plain v designators (part plain (flat initial) none)
      ∙ next (given v r) plain (scoped_each v Plain designators) initial none (scoped-flat (scoped_each v Plain designators) Plain initial)

  within_specifier-flat : (v : Scopes) (r : Role) (k : SpecifierShape) → after_all (given v r) (opened v r (Specifier k)) (specifier_parts k) ≡ within_specifier v r k
  within_specifier-flat v r (TypeName specs declarator) = next (given v r) plain v specs (maybe plain declarator none) (scoped-flat v Plain specs)
      ∙ maybe-flat (given v r) plain (scoped v Plain specs) declarator none
  within_specifier-flat v r (Specs items) = each-flat (given v r) (item_of items) v items none
  within_specifier-flat v r (StructTag which tag) = refl
  within_specifier-flat v r (StructBody which tag members) = each-flat (given v r) (inside which tag) (body_opened v (sort_of which) tag) members none
  within_specifier-flat v r (EnumTag tag) = refl
  within_specifier-flat v r (EnumBody tag enumerators comma) = each-flat (given v r) plain (body_opened v Enums tag) enumerators none
  within_specifier-flat v r (StructDeclaration specs declarators) = next (given v r) plain v specs (each (member_by specs) declarators none) (scoped-flat v Plain specs)
      ∙ each-flat (given v r) (member_by specs) (scoped v Plain specs) declarators none
  within_specifier-flat v r (BitField declarator width) = maybe-flat (given v r) same v declarator (part plain (flat width) none)
      ∙ next (given v r) plain (scoped_maybe v r declarator) width none (scoped-flat (scoped_maybe v r declarator) Plain width)
  within_specifier-flat v r (Param specs declarator) = next (given v r) plain v specs (maybe (formal_by specs) declarator none) (scoped-flat v Plain specs)
      ∙ maybe-flat (given v r) (formal_by specs) (scoped v Plain specs) declarator none

  within_declarator-flat : (v : Scopes) (r : Role) (k : DeclaratorShape) → after_all (given v r) (opened v r (Declarator k)) (declarator_parts k) ≡ within_declarator v r k
  within_declarator-flat v r (Named pointers name suffixes) = beside-flat (given v r) beside_name v suffixes refl
  within_declarator-flat v r (Nested pointers inner suffixes) = next (given v r) (toward inner) v inner (first_in (beside inner) suffixes) (scoped-flat v (cond (is_bare inner) Plain (inner_role r)) inner)
      ∙ beside-flat (given v r) (beside inner) (scoped v (cond (is_bare inner) Plain (inner_role r)) inner) suffixes refl
  within_declarator-flat v r (Unnamed pointers suffixes) = each-flat (given v r) plain v suffixes none

  within_part-flat : (v : Scopes) (r : Role) (k : PartShape) → after_all (given v r) (opened v r (Part k)) (part_parts k) ≡ within_part v r k
  within_part-flat v r (SpecWord word) = refl
  within_part-flat v r (ArrayBound words bound) = maybe-flat (given v r) plain v bound none
  within_part-flat v r VoidParams = refl
  within_part-flat v r (Params params variadic) = each-flat (given v r) plain (deeper v) params none
  within_part-flat v r (Enumerator name value) = maybe-flat (given v r) plain v value none
  within_part-flat v r (MemberDesignator member) = refl
  within_part-flat v r (IndexDesignator index) = next (given v r) plain v index none (scoped-flat v Plain index)

  within_outer-flat : (v : Scopes) (r : Role) (k : OuterShape) → after_all (given v r) (opened v r (Outer k)) (outer_parts k) ≡ within_outer v r k
  within_outer-flat v r (Declaration specs declarators) = next (given v r) (specs_of declarators) v specs (each (declared_by specs) declarators none) (scoped-flat v (specs_role declarators) specs)
      ∙ each-flat (given v r) (declared_by specs) (scoped v (specs_role declarators) specs) declarators none
  within_outer-flat v r (Function specs declarator block) = next (given v r) plain v specs (part (defined_by specs) (flat declarator) (part body (flat block) none)) (scoped-flat v Plain specs)
      ∙ next (given v r) (defined_by specs) (scoped v Plain specs) declarator (part body (flat block) none) (scoped-flat (scoped v Plain specs) (Defines (storage_of specs) (specified_type v specs)) declarator)
      ∙ next (given v r) body (scoped (scoped v Plain specs) (Defines (storage_of specs) (specified_type v specs)) declarator) block none (scoped-flat (scoped (scoped v Plain specs) (Defines (storage_of specs) (specified_type v specs)) declarator) Body block)
  within_outer-flat v r Empty = refl

  within_statement-flat : (v : Scopes) (r : Role) (k : StatementShape) → after_all (given v r) (opened v r (Statement k)) (statement_parts k) ≡ within_statement v r k
  within_statement-flat v r (Block items) = each-flat (given v r) plain (opened_block v r) items none
  within_statement-flat v r (ExprStmt value) = maybe-flat (given v r) plain v value none
  within_statement-flat v r (If condition then otherwise) = next (given v r) plain v condition (part plain (flat then) (maybe plain otherwise none)) (scoped-flat v Plain condition)
      ∙ next (given v r) plain (scoped v Plain condition) then (maybe plain otherwise none) (scoped-flat (scoped v Plain condition) Plain then)
      ∙ maybe-flat (given v r) plain (scoped (scoped v Plain condition) Plain then) otherwise none
  within_statement-flat v r (Switch value inner) = next (given v r) plain v value (part plain (flat inner) none) (scoped-flat v Plain value)
      ∙ next (given v r) plain (scoped v Plain value) inner none (scoped-flat (scoped v Plain value) Plain inner)
  within_statement-flat v r (Case value inner) = next (given v r) plain v value (part plain (flat inner) none) (scoped-flat v Plain value)
      ∙ next (given v r) plain (scoped v Plain value) inner none (scoped-flat (scoped v Plain value) Plain inner)
  within_statement-flat v r (Default inner) = next (given v r) plain v inner none (scoped-flat v Plain inner)
  within_statement-flat v r (Label label inner) = next (given v r) plain v inner none (scoped-flat v Plain inner)

  within_iteration-flat : (v : Scopes) (r : Role) (k : IterationShape) → after_all (given v r) (opened v r (Iteration k)) (iteration_parts k) ≡ within_iteration v r k
  within_iteration-flat v r (While condition inner) = next (given v r) plain v condition (part plain (flat inner) none) (scoped-flat v Plain condition)
      ∙ next (given v r) plain (scoped v Plain condition) inner none (scoped-flat (scoped v Plain condition) Plain inner)
  within_iteration-flat v r (Do inner condition) = next (given v r) plain v inner (part plain (flat condition) none) (scoped-flat v Plain inner)
      ∙ next (given v r) plain (scoped v Plain inner) condition none (scoped-flat (scoped v Plain inner) Plain condition)
  within_iteration-flat v r (For first condition step inner) = maybe-flat (given v r) plain v first (maybe plain condition (maybe plain step (part plain (flat inner) none)))
      ∙ maybe-flat (given v r) plain (scoped_maybe v Plain first) condition (maybe plain step (part plain (flat inner) none))
      ∙ maybe-flat (given v r) plain (scoped_maybe (scoped_maybe v Plain first) Plain condition) step (part plain (flat inner) none)
      ∙ next (given v r) plain (scoped_maybe (scoped_maybe (scoped_maybe v Plain first) Plain condition) Plain step) inner none (scoped-flat (scoped_maybe (scoped_maybe (scoped_maybe v Plain first) Plain condition) Plain step) Plain inner)
  within_iteration-flat v r (ForDeclaration declaration condition step inner) = next (given v r) plain (deeper v) declaration (maybe plain condition (maybe plain step (part plain (flat inner) none))) (scoped-flat (deeper v) Plain declaration)
      ∙ maybe-flat (given v r) plain (scoped (deeper v) Plain declaration) condition (maybe plain step (part plain (flat inner) none))
      ∙ maybe-flat (given v r) plain (scoped_maybe (scoped (deeper v) Plain declaration) Plain condition) step (part plain (flat inner) none)
      ∙ next (given v r) plain (scoped_maybe (scoped_maybe (scoped (deeper v) Plain declaration) Plain condition) Plain step) inner none (scoped-flat (scoped_maybe (scoped_maybe (scoped (deeper v) Plain declaration) Plain condition) Plain step) Plain inner)

  within_jump-flat : (v : Scopes) (r : Role) (k : JumpShape) → after_all (given v r) (opened v r (Jump k)) (jump_parts k) ≡ within_jump v r k
  within_jump-flat v r (Goto label) = refl
  within_jump-flat v r Continue = refl
  within_jump-flat v r Break = refl
  within_jump-flat v r (Return value) = maybe-flat (given v r) plain v value none

  pub maybe-flat : (roles : Slot → Role) (slot : Slot) (v : Scopes) (m : MaybeNode) (rest : Parts) → after_all roles v (maybe slot m rest) ≡ after_all roles (scoped_maybe v (roles slot) m) rest
  maybe-flat roles slot v absent rest = refl
  maybe-flat roles slot v (present e) rest = next roles slot v e rest (scoped-flat v (roles slot) e)

  pub each-flat : (roles : Slot → Role) (slot : Slot) (v : Scopes) (es : Nodes) (rest : Parts) → after_all roles v (each slot es rest) ≡ after_all roles (scoped_each v (roles slot) es) rest
  each-flat roles slot v no_more rest = refl
  each-flat roles slot v (more e es) rest = next roles slot v e (each slot es rest) (scoped-flat v (roles slot) e) ∙ each-flat roles slot (scoped v (roles slot) e) es rest

  pub beside-flat : (roles : Slot → Role) (slot : Slot) (v : Scopes) (es : Nodes) → roles plain ≡ Plain → after_all roles v (first_in slot es) ≡ scoped_beside v (roles slot) es
  beside-flat roles slot v no_more h = refl
  beside-flat roles slot v (more e es) h =
      next roles slot v e (each plain es none) (scoped-flat v (roles slot) e)
      ∙ each-flat roles plain (scoped v (roles slot) e) es none
      ∙ ap (λ r. scoped_each (scoped v (roles slot) e) r es) h
      ∙ beside-plain (scoped v (roles slot) e) es
