-- The visit that is written out for each kind is the visit in order.
use Rattle.std.proofs.Common.{◌≡◌, ℕ, cond, List, ◌∷◌, Result, Ok, Err, ap, refl, ◌∙◌, sym}
use Rattle.c_tree.specs.declared.place.Place.{Place}
use Rattle.c_tree.specs.Node.{Node, node, Shape, Primary, Operation, Initializer, Specifier, Declarator, Part, Outer, Statement, Iteration, Jump, PrimaryShape, OperationShape, InitializerShape, SpecifierShape, DeclaratorShape, PartShape, OuterShape, StatementShape, IterationShape, JumpShape, Ident, Constant, StrConst, Paren, VaArg, Offsetof, Hole, Index, Call, Member, Arrow, CompoundLit, Unary, SizeofType, Cast, Binary, Cond, Assign, Init, Braces, Designated, TypeName, Specs, StructTag, StructBody, EnumTag, EnumBody, StructDeclaration, BitField, Param, Named, Nested, Unnamed, SpecWord, ArrayBound, VoidParams, Params, Enumerator, MemberDesignator, IndexDesignator, Declaration, Function, Empty, Block, ExprStmt, If, Switch, Case, Default, Label, While, Do, For, ForDeclaration, Goto, Continue, Break, Return, MaybeNode, absent, present, Nodes, no_more, more}
use Rattle.type_rules.specs.Declarators.{is_bare, around_maybe, enumerator}
use Rattle.type_rules.specs.Definition.{after, behind_parts}
use Rattle.type_rules.specs.Faults.{Fault, NotPointer, NotFunction}
use Rattle.type_rules.specs.Moves.{opened_block}
use Rattle.type_rules.specs.Options.{or_fault, unless_fault, ◌>>=◌}
use Rattle.type_rules.specs.Order.{visited, visited_all}
use Rattle.type_rules.specs.Parts.{Slot, plain, callee, same, specs_of, item_of, declared_by, defined_by, formal_by, member_by, beside_name, toward, beside, inside, body, visit, Parts, none, part, flat, parts, maybe, each, first_in, primary_parts, operation_parts, initializer_parts, specifier_parts, declarator_parts, part_parts, outer_parts, statement_parts, iteration_parts, jump_parts}
use Rattle.type_rules.specs.Roles.{Role, Plain, Callee, Declares, Defines, Formal, Inside, Body, owner_of, inner_role, specs_role, item_role, given}
use Rattle.type_rules.specs.Roles as roles
use Rattle.type_rules.specs.Rows.{member, unary_row, if_lvalue, members_row, declarator_row, name_row, primary_row, operation_row, initializer_row}
use Rattle.type_rules.specs.Scopes.{Scopes, Enums, deeper}
use Rattle.type_rules.specs.Ways.ScopesByCase.{scoped, scoped_maybe, scoped_each}
use Rattle.type_rules.specs.Specified.{specified_type, storage_of}
use Rattle.type_rules.specs.Tags.{sort_of, body_opened, body_fault}
use Rattle.type_rules.specs.Types.{CType, Void, size, indexed, called, element, combined, chosen}
use Rattle.type_rules.specs.Ways.TypesByCase.{typed, typed_shape, typed_maybe, typed_each, typed_beside, typed_primary, typed_operation, typed_initializer, typed_specifier, typed_declarator, typed_part, typed_outer, typed_statement, typed_iteration, typed_jump}
use Rattle.type_rules.proofs.BridgeScopes.{scoped-flat, within-flat}

after-part : (a : Result CType Fault) (b : Result (List CType) Fault) (k : List CType → Result CType Fault) → (a >>= λ t. b >>= λ ts. k (t ∷ ts)) ≡ ((a >>= λ t. b >>= λ ts. Ok (t ∷ ts)) >>= k)
after-part (Ok t) (Ok ts) k = refl
after-part (Ok t) (Err e) k = refl
after-part (Err e) b k = refl

bind-same : (a : Result CType Fault) (f g : CType → Result CType Fault) → ((t : CType) → f t ≡ g t) → (a >>= f) ≡ (a >>= g)
bind-same (Ok t) f g h = h t
bind-same (Err e) f g h = refl

bind-twice : (a b c : Result CType Fault) → (a >>= λ _. b >>= λ _. c) ≡ ((a >>= λ _. b) >>= λ _. c)
bind-twice (Ok t) b c = refl
bind-twice (Err e) b c = refl

-- all in one role
beside-plain : (v : Scopes) (es : Nodes) → typed_beside v Plain es ≡ typed_each v Plain es
beside-plain v no_more = refl
beside-plain v (more e es) = bind-same (typed v Plain e) (λ _. typed_beside (scoped v Plain e) Plain es) (λ _. typed_each (scoped v Plain e) Plain es) (λ t. beside-plain (scoped v Plain e) es)

-- the visit of a part and then the others, with the answer in their types; `f`: what is written out of the others
next : (roles : Slot → Role) (slot : Slot) (v : Scopes) (e : Node) (es : Parts) (k : List CType → Result CType Fault) (f : Scopes → CType → Result CType Fault)
    → typed v (roles slot) e ≡ visited v (roles slot) (flat e)
    → ((w : Scopes) (t : CType) → f w t ≡ (visited_all roles w es >>= λ ts. k (t ∷ ts)))
    → (typed v (roles slot) e >>= λ t. f (scoped v (roles slot) e) t) ≡ (visited_all roles v (part slot (flat e) es) >>= k)
next roles slot v e es k f h rest =
    ap (λ a. a >>= λ t. f (scoped v (roles slot) e) t) h
    ∙ ap (λ w. visited v (roles slot) (flat e) >>= λ t. f w t) (sym (scoped-flat v (roles slot) e))
    ∙ bind-same (visited v (roles slot) (flat e)) (f (after v (roles slot) (flat e))) (λ t. visited_all roles (after v (roles slot) (flat e)) es >>= λ ts. k (t ∷ ts)) (rest (after v (roles slot) (flat e)))
    ∙ after-part (visited v (roles slot) (flat e)) (visited_all roles (after v (roles slot) (flat e)) es) k

mutual
  pub typed-flat : (v : Scopes) (r : Role) (e : Node) → typed v r e ≡ visited v r (flat e)
  typed-flat v r (node i p s) = sym (typed_shape-flat v r i p s)

  pub typed_shape-flat : (v : Scopes) (r : Role) (i : ℕ) (p : Place) (s : Shape) → visited v r (visit i p s (parts s)) ≡ typed_shape v r p s
  typed_shape-flat v r i p (Primary k) = sym (typed_primary-flat v r i p k)
  typed_shape-flat v r i p (Operation k) = sym (typed_operation-flat v r i p k)
  typed_shape-flat v r i p (Initializer k) = sym (typed_initializer-flat v r i p k)
  typed_shape-flat v r i p (Specifier k) = sym (typed_specifier-flat v r i p k)
  typed_shape-flat v r i p (Declarator k) = sym (typed_declarator-flat v r i p k)
  typed_shape-flat v r i p (Part k) = sym (typed_part-flat v r i p k)
  typed_shape-flat v r i p (Outer k) = sym (typed_outer-flat v r i p k)
  typed_shape-flat v r i p (Statement k) = sym (typed_statement-flat v r i p k)
  typed_shape-flat v r i p (Iteration k) = sym (typed_iteration-flat v r i p k)
  typed_shape-flat v r i p (Jump k) = sym (typed_jump-flat v r i p k)

  typed_primary-flat : (v : Scopes) (r : Role) (i : ℕ) (p : Place) (k : PrimaryShape) → typed_primary v r p k ≡ visited v r (visit i p (Primary k) (primary_parts k))
  typed_primary-flat v r i p (Ident name) = refl
  typed_primary-flat v r i p (Constant token) = refl
  typed_primary-flat v r i p (StrConst literals) = refl
  typed_primary-flat v r i p (Paren inner) =
      next (given v r) plain v inner none (λ ts. primary_row v r p (Paren inner) (ts)) (λ w1 t1. Ok t1) (typed-flat v Plain inner)
      (λ w1 t1. refl)
  typed_primary-flat v r i p (VaArg list of) =
      next (given v r) plain v list (part plain (flat of) none) (λ ts. primary_row v r p (VaArg list of) (ts)) (λ w1 _. typed w1 Plain of >>= λ t2. Ok t2) (typed-flat v Plain list)
      (λ w1 _. next (given v r) plain w1 of none (λ ts. primary_row v r p (VaArg list of) (Void ∷ ts)) (λ w2 t2. Ok t2) (typed-flat w1 Plain of)
      (λ w2 t2. refl))
  typed_primary-flat v r i p (Offsetof of member path) =
      next (given v r) plain v of (each plain path none) (λ _. Ok size) (λ w1 _. typed_each w1 Plain path >>= λ _. Ok size) (typed-flat v Plain of)
      (λ w1 _. each-flat (given v r) plain w1 path none (Ok size) (λ w2. Ok size)
      (λ w2. refl))
  typed_primary-flat v r i p (Hole number) = refl

  typed_operation-flat : (v : Scopes) (r : Role) (i : ℕ) (p : Place) (k : OperationShape) → typed_operation v r p k ≡ visited v r (visit i p (Operation k) (operation_parts k))
  typed_operation-flat v r i p (Index array index) =
      next (given v r) plain v array (part plain (flat index) none) (λ ts. operation_row v (behind_parts v r (Operation (Index array index)) (operation_parts (Index array index))) p (Index array index) (ts)) (λ w1 t1. typed w1 Plain index >>= λ t2. or_fault (indexed t1 t2) (NotPointer p)) (typed-flat v Plain array)
      (λ w1 t1. next (given v r) plain w1 index none (λ ts. operation_row v (behind_parts v r (Operation (Index array index)) (operation_parts (Index array index))) p (Index array index) (t1 ∷ ts)) (λ w2 t2. or_fault (indexed t1 t2) (NotPointer p)) (typed-flat w1 Plain index)
      (λ w2 t2. refl))
  typed_operation-flat v r i p (Call function paren arguments) =
      next (given v r) callee v function (each plain arguments none) (λ ts. operation_row v (behind_parts v r (Operation (Call function paren arguments)) (operation_parts (Call function paren arguments))) p (Call function paren arguments) (ts)) (λ w1 t1. typed_each w1 Plain arguments >>= λ _. or_fault (called t1) (NotFunction p)) (typed-flat v Callee function)
      (λ w1 t1. each-flat (given v r) plain w1 arguments none (or_fault (called t1) (NotFunction p)) (λ w2. or_fault (called t1) (NotFunction p))
      (λ w2. refl))
  typed_operation-flat v r i p (Member operand name) =
      ap (λ w. typed v Plain operand >>= λ t1. member w p name t1) (sym (within-flat v r (Operation (Member operand name))))
      ∙ next (given v r) plain v operand none (λ ts. operation_row v (behind_parts v r (Operation (Member operand name)) (operation_parts (Member operand name))) p (Member operand name) (ts)) (λ w1 t1. member (behind_parts v r (Operation (Member operand name)) (operation_parts (Member operand name))) p name t1) (typed-flat v Plain operand)
      (λ w1 t1. refl)
  typed_operation-flat v r i p (Arrow operand name) =
      ap (λ w. typed v Plain operand >>= λ t1. or_fault (element t1) (NotPointer p) >>= λ t. member w p name t) (sym (within-flat v r (Operation (Arrow operand name))))
      ∙ next (given v r) plain v operand none (λ ts. operation_row v (behind_parts v r (Operation (Arrow operand name)) (operation_parts (Arrow operand name))) p (Arrow operand name) (ts)) (λ w1 t1. or_fault (element t1) (NotPointer p) >>= λ t. member (behind_parts v r (Operation (Arrow operand name)) (operation_parts (Arrow operand name))) p name t) (typed-flat v Plain operand)
      (λ w1 t1. refl)
  typed_operation-flat v r i p (CompoundLit of braces) =
      next (given v r) plain v of (part plain (flat braces) none) (λ ts. operation_row v (behind_parts v r (Operation (CompoundLit of braces)) (operation_parts (CompoundLit of braces))) p (CompoundLit of braces) (ts)) (λ w1 t1. typed w1 Plain braces >>= λ _. Ok t1) (typed-flat v Plain of)
      (λ w1 t1. next (given v r) plain w1 braces none (λ ts. operation_row v (behind_parts v r (Operation (CompoundLit of braces)) (operation_parts (CompoundLit of braces))) p (CompoundLit of braces) (t1 ∷ ts)) (λ w2 _. Ok t1) (typed-flat w1 Plain braces)
      (λ w2 _. refl))
  typed_operation-flat v r i p (Unary op operand) =
      next (given v r) plain v operand none (λ ts. operation_row v (behind_parts v r (Operation (Unary op operand)) (operation_parts (Unary op operand))) p (Unary op operand) (ts)) (λ w1 t1. unary_row v p op operand t1) (typed-flat v Plain operand)
      (λ w1 t1. refl)
  typed_operation-flat v r i p (SizeofType of) =
      next (given v r) plain v of none (λ _. Ok size) (λ w1 _. Ok size) (typed-flat v Plain of)
      (λ w1 _. refl)
  typed_operation-flat v r i p (Cast to operand) =
      next (given v r) plain v to (part plain (flat operand) none) (λ ts. operation_row v (behind_parts v r (Operation (Cast to operand)) (operation_parts (Cast to operand))) p (Cast to operand) (ts)) (λ w1 t1. typed w1 Plain operand >>= λ _. Ok t1) (typed-flat v Plain to)
      (λ w1 t1. next (given v r) plain w1 operand none (λ ts. operation_row v (behind_parts v r (Operation (Cast to operand)) (operation_parts (Cast to operand))) p (Cast to operand) (t1 ∷ ts)) (λ w2 _. Ok t1) (typed-flat w1 Plain operand)
      (λ w2 _. refl))
  typed_operation-flat v r i p (Binary op left right) =
      next (given v r) plain v left (part plain (flat right) none) (λ ts. operation_row v (behind_parts v r (Operation (Binary op left right)) (operation_parts (Binary op left right))) p (Binary op left right) (ts)) (λ w1 t1. typed w1 Plain right >>= λ t2. Ok (combined op t1 t2)) (typed-flat v Plain left)
      (λ w1 t1. next (given v r) plain w1 right none (λ ts. operation_row v (behind_parts v r (Operation (Binary op left right)) (operation_parts (Binary op left right))) p (Binary op left right) (t1 ∷ ts)) (λ w2 t2. Ok (combined op t1 t2)) (typed-flat w1 Plain right)
      (λ w2 t2. refl))
  typed_operation-flat v r i p (Cond condition then otherwise) =
      next (given v r) plain v condition (part plain (flat then) (part plain (flat otherwise) none)) (λ ts. operation_row v (behind_parts v r (Operation (Cond condition then otherwise)) (operation_parts (Cond condition then otherwise))) p (Cond condition then otherwise) (ts)) (λ w1 _. typed w1 Plain then >>= λ t2. typed (scoped w1 Plain then) Plain otherwise >>= λ t3. Ok (chosen t2 t3)) (typed-flat v Plain condition)
      (λ w1 _. next (given v r) plain w1 then (part plain (flat otherwise) none) (λ ts. operation_row v (behind_parts v r (Operation (Cond condition then otherwise)) (operation_parts (Cond condition then otherwise))) p (Cond condition then otherwise) (Void ∷ ts)) (λ w2 t2. typed w2 Plain otherwise >>= λ t3. Ok (chosen t2 t3)) (typed-flat w1 Plain then)
      (λ w2 t2. next (given v r) plain w2 otherwise none (λ ts. operation_row v (behind_parts v r (Operation (Cond condition then otherwise)) (operation_parts (Cond condition then otherwise))) p (Cond condition then otherwise) (Void ∷ t2 ∷ ts)) (λ w3 t3. Ok (chosen t2 t3)) (typed-flat w2 Plain otherwise)
      (λ w3 t3. refl)))
  typed_operation-flat v r i p (Assign op left right) =
      next (given v r) plain v left (part plain (flat right) none) (λ ts. operation_row v (behind_parts v r (Operation (Assign op left right)) (operation_parts (Assign op left right))) p (Assign op left right) (ts)) (λ w1 t1. typed w1 Plain right >>= λ _. if_lvalue v p left t1) (typed-flat v Plain left)
      (λ w1 t1. next (given v r) plain w1 right none (λ ts. operation_row v (behind_parts v r (Operation (Assign op left right)) (operation_parts (Assign op left right))) p (Assign op left right) (t1 ∷ ts)) (λ w2 _. if_lvalue v p left t1) (typed-flat w1 Plain right)
      (λ w2 _. refl))

  typed_initializer-flat : (v : Scopes) (r : Role) (i : ℕ) (p : Place) (k : InitializerShape) → typed_initializer v r p k ≡ visited v r (visit i p (Initializer k) (initializer_parts k))
  typed_initializer-flat v r i p (Init name declarator initial) =
      next (given v r) same v declarator (part plain (flat name) (part plain (flat initial) none)) (λ ts. initializer_row (Init name declarator initial) (ts)) (λ w1 _. typed w1 Plain name >>= λ t2. typed (scoped w1 Plain name) Plain initial >>= λ _. Ok t2) (typed-flat v r declarator)
      (λ w1 _. next (given v r) plain w1 name (part plain (flat initial) none) (λ ts. initializer_row (Init name declarator initial) (Void ∷ ts)) (λ w2 t2. typed w2 Plain initial >>= λ _. Ok t2) (typed-flat w1 Plain name)
      (λ w2 t2. next (given v r) plain w2 initial none (λ ts. initializer_row (Init name declarator initial) (Void ∷ t2 ∷ ts)) (λ w3 _. Ok t2) (typed-flat w2 Plain initial)
      (λ w3 _. refl)))
  typed_initializer-flat v r i p (Braces elements comma) =
      each-flat (given v r) plain v elements none (Ok Void) (λ w1. Ok Void)
      (λ w1. refl)
  typed_initializer-flat v r i p (Designated designators initial) =
      each-flat (given v r) plain v designators (part plain (flat initial) none) (Ok Void) (λ w1. typed w1 Plain initial >>= λ _. Ok Void)
      (λ w1. next (given v r) plain w1 initial none (λ _. Ok Void) (λ w2 _. Ok Void) (typed-flat w1 Plain initial)
      (λ w2 _. refl))

  typed_specifier-flat : (v : Scopes) (r : Role) (i : ℕ) (p : Place) (k : SpecifierShape) → typed_specifier v r p k ≡ visited v r (visit i p (Specifier k) (specifier_parts k))
  typed_specifier-flat v r i p (TypeName specs declarator) =
      next (given v r) plain v specs (maybe plain declarator none) (λ _. Ok (around_maybe declarator (specified_type v specs))) (λ w1 _. typed_maybe w1 Plain declarator >>= λ _. Ok (around_maybe declarator (specified_type v specs))) (typed-flat v Plain specs)
      (λ w1 _. maybe-flat (given v r) plain w1 declarator none (Ok (around_maybe declarator (specified_type v specs))) (λ w2. Ok (around_maybe declarator (specified_type v specs)))
      (λ w2. refl))
  typed_specifier-flat v r i p (Specs items) =
      each-flat (given v r) (item_of items) v items none (Ok Void) (λ w1. Ok Void)
      (λ w1. refl)
  typed_specifier-flat v r i p (StructTag which tag) = refl
  typed_specifier-flat v r i p (StructBody which tag members) =
      ap (unless_fault (body_fault v (sort_of which) tag)) (each-flat (given v r) (inside which tag) (body_opened v (sort_of which) tag) members none (Ok Void) (λ w1. Ok Void)
      (λ w1. refl))
  typed_specifier-flat v r i p (EnumTag tag) = refl
  typed_specifier-flat v r i p (EnumBody tag enumerators comma) =
      ap (unless_fault (body_fault v Enums tag)) (each-flat (given v r) plain (body_opened v Enums tag) enumerators none (Ok Void) (λ w1. Ok Void)
      (λ w1. refl))
  typed_specifier-flat v r i p (StructDeclaration specs declarators) =
      ap (λ w. typed v Plain specs >>= λ _. typed_each (scoped v Plain specs) (roles.Member (owner_of r) (specified_type v specs)) declarators >>= λ _. members_row v w r specs declarators) (sym (within-flat v r (Specifier (StructDeclaration specs declarators))))
      ∙ next (given v r) plain v specs (each (member_by specs) declarators none) (λ _. members_row v (behind_parts v r (Specifier (StructDeclaration specs declarators)) (specifier_parts (StructDeclaration specs declarators))) r specs declarators) (λ w1 _. typed_each w1 (roles.Member (owner_of r) (specified_type v specs)) declarators >>= λ _. members_row v (behind_parts v r (Specifier (StructDeclaration specs declarators)) (specifier_parts (StructDeclaration specs declarators))) r specs declarators) (typed-flat v Plain specs)
      (λ w1 _. each-flat (given v r) (member_by specs) w1 declarators none (members_row v (behind_parts v r (Specifier (StructDeclaration specs declarators)) (specifier_parts (StructDeclaration specs declarators))) r specs declarators) (λ w2. members_row v (behind_parts v r (Specifier (StructDeclaration specs declarators)) (specifier_parts (StructDeclaration specs declarators))) r specs declarators)
      (λ w2. refl))
  typed_specifier-flat v r i p (BitField declarator width) =
      maybe-flat (given v r) same v declarator (part plain (flat width) none) (Ok Void) (λ w1. typed w1 Plain width >>= λ _. Ok Void)
      (λ w1. next (given v r) plain w1 width none (λ _. Ok Void) (λ w2 _. Ok Void) (typed-flat w1 Plain width)
      (λ w2 _. refl))
  typed_specifier-flat v r i p (Param specs declarator) =
      next (given v r) plain v specs (maybe (formal_by specs) declarator none) (λ _. Ok Void) (λ w1 _. typed_maybe w1 (Formal (specified_type v specs)) declarator >>= λ _. Ok Void) (typed-flat v Plain specs)
      (λ w1 _. maybe-flat (given v r) (formal_by specs) w1 declarator none (Ok Void) (λ w2. Ok Void)
      (λ w2. refl))

  typed_declarator-flat : (v : Scopes) (r : Role) (i : ℕ) (p : Place) (k : DeclaratorShape) → typed_declarator v r p k ≡ visited v r (visit i p (Declarator k) (declarator_parts k))
  typed_declarator-flat v r i p (Named pointers name suffixes) =
      ap (λ w. typed_beside v (inner_role r) suffixes >>= λ _. declarator_row w r p (Named pointers name suffixes)) (sym (within-flat v r (Declarator (Named pointers name suffixes))))
      ∙ beside-flat (given v r) beside_name v suffixes (declarator_row (behind_parts v r (Declarator (Named pointers name suffixes)) (declarator_parts (Named pointers name suffixes))) r p (Named pointers name suffixes)) refl
  typed_declarator-flat v r i p (Nested pointers inner suffixes) =
      ap (λ w. typed v (cond (is_bare inner) Plain (inner_role r)) inner >>= λ _. typed_beside (scoped v (cond (is_bare inner) Plain (inner_role r)) inner) (cond (is_bare inner) (inner_role r) Plain) suffixes >>= λ _. declarator_row w r p (Nested pointers inner suffixes)) (sym (within-flat v r (Declarator (Nested pointers inner suffixes))))
      ∙ next (given v r) (toward inner) v inner (first_in (beside inner) suffixes) (λ _. declarator_row (behind_parts v r (Declarator (Nested pointers inner suffixes)) (declarator_parts (Nested pointers inner suffixes))) r p (Nested pointers inner suffixes)) (λ w1 _. typed_beside w1 (cond (is_bare inner) (inner_role r) Plain) suffixes >>= λ _. declarator_row (behind_parts v r (Declarator (Nested pointers inner suffixes)) (declarator_parts (Nested pointers inner suffixes))) r p (Nested pointers inner suffixes)) (typed-flat v (cond (is_bare inner) Plain (inner_role r)) inner)
      (λ w1 _. beside-flat (given v r) (beside inner) w1 suffixes (declarator_row (behind_parts v r (Declarator (Nested pointers inner suffixes)) (declarator_parts (Nested pointers inner suffixes))) r p (Nested pointers inner suffixes)) refl)
  typed_declarator-flat v r i p (Unnamed pointers suffixes) =
      ap (λ w. typed_each v Plain suffixes >>= λ _. declarator_row w r p (Unnamed pointers suffixes)) (sym (within-flat v r (Declarator (Unnamed pointers suffixes))))
      ∙ each-flat (given v r) plain v suffixes none (declarator_row (behind_parts v r (Declarator (Unnamed pointers suffixes)) (declarator_parts (Unnamed pointers suffixes))) r p (Unnamed pointers suffixes)) (λ w1. declarator_row (behind_parts v r (Declarator (Unnamed pointers suffixes)) (declarator_parts (Unnamed pointers suffixes))) r p (Unnamed pointers suffixes))
      (λ w1. refl)

  typed_part-flat : (v : Scopes) (r : Role) (i : ℕ) (p : Place) (k : PartShape) → typed_part v r p k ≡ visited v r (visit i p (Part k) (part_parts k))
  typed_part-flat v r i p (SpecWord word) = refl
  typed_part-flat v r i p (ArrayBound words bound) =
      maybe-flat (given v r) plain v bound none (Ok Void) (λ w1. Ok Void)
      (λ w1. refl)
  typed_part-flat v r i p VoidParams = refl
  typed_part-flat v r i p (Params params variadic) =
      each-flat (given v r) plain (deeper v) params none (Ok Void) (λ w1. Ok Void)
      (λ w1. refl)
  typed_part-flat v r i p (Enumerator name value) =
      ap (λ w. typed_maybe v Plain value >>= λ _. name_row w name.place (enumerator w name)) (sym (within-flat v r (Part (Enumerator name value))))
      ∙ maybe-flat (given v r) plain v value none (name_row (behind_parts v r (Part (Enumerator name value)) (part_parts (Enumerator name value))) name.place (enumerator (behind_parts v r (Part (Enumerator name value)) (part_parts (Enumerator name value))) name)) (λ w1. name_row (behind_parts v r (Part (Enumerator name value)) (part_parts (Enumerator name value))) name.place (enumerator (behind_parts v r (Part (Enumerator name value)) (part_parts (Enumerator name value))) name))
      (λ w1. refl)
  typed_part-flat v r i p (MemberDesignator member) = refl
  typed_part-flat v r i p (IndexDesignator index) =
      next (given v r) plain v index none (λ _. Ok Void) (λ w1 _. Ok Void) (typed-flat v Plain index)
      (λ w1 _. refl)

  typed_outer-flat : (v : Scopes) (r : Role) (i : ℕ) (p : Place) (k : OuterShape) → typed_outer v r p k ≡ visited v r (visit i p (Outer k) (outer_parts k))
  typed_outer-flat v r i p (Declaration specs declarators) =
      next (given v r) (specs_of declarators) v specs (each (declared_by specs) declarators none) (λ _. Ok Void) (λ w1 _. typed_each w1 (Declares (storage_of specs) (specified_type v specs)) declarators >>= λ _. Ok Void) (typed-flat v (specs_role declarators) specs)
      (λ w1 _. each-flat (given v r) (declared_by specs) w1 declarators none (Ok Void) (λ w2. Ok Void)
      (λ w2. refl))
  typed_outer-flat v r i p (Function specs declarator block) =
      next (given v r) plain v specs (part (defined_by specs) (flat declarator) (part body (flat block) none)) (λ _. Ok Void) (λ w1 _. typed w1 (Defines (storage_of specs) (specified_type v specs)) declarator >>= λ _. typed (scoped w1 (Defines (storage_of specs) (specified_type v specs)) declarator) Body block >>= λ _. Ok Void) (typed-flat v Plain specs)
      (λ w1 _. next (given v r) (defined_by specs) w1 declarator (part body (flat block) none) (λ _. Ok Void) (λ w2 _. typed w2 Body block >>= λ _. Ok Void) (typed-flat w1 (Defines (storage_of specs) (specified_type v specs)) declarator)
      (λ w2 _. next (given v r) body w2 block none (λ _. Ok Void) (λ w3 _. Ok Void) (typed-flat w2 Body block)
      (λ w3 _. refl)))
  typed_outer-flat v r i p Empty = refl

  typed_statement-flat : (v : Scopes) (r : Role) (i : ℕ) (p : Place) (k : StatementShape) → typed_statement v r p k ≡ visited v r (visit i p (Statement k) (statement_parts k))
  typed_statement-flat v r i p (Block items) =
      each-flat (given v r) plain (opened_block v r) items none (Ok Void) (λ w1. Ok Void)
      (λ w1. refl)
  typed_statement-flat v r i p (ExprStmt value) =
      maybe-flat (given v r) plain v value none (Ok Void) (λ w1. Ok Void)
      (λ w1. refl)
  typed_statement-flat v r i p (If condition then otherwise) =
      next (given v r) plain v condition (part plain (flat then) (maybe plain otherwise none)) (λ _. Ok Void) (λ w1 _. typed w1 Plain then >>= λ _. typed_maybe (scoped w1 Plain then) Plain otherwise >>= λ _. Ok Void) (typed-flat v Plain condition)
      (λ w1 _. next (given v r) plain w1 then (maybe plain otherwise none) (λ _. Ok Void) (λ w2 _. typed_maybe w2 Plain otherwise >>= λ _. Ok Void) (typed-flat w1 Plain then)
      (λ w2 _. maybe-flat (given v r) plain w2 otherwise none (Ok Void) (λ w3. Ok Void)
      (λ w3. refl)))
  typed_statement-flat v r i p (Switch value inner) =
      next (given v r) plain v value (part plain (flat inner) none) (λ _. Ok Void) (λ w1 _. typed w1 Plain inner >>= λ _. Ok Void) (typed-flat v Plain value)
      (λ w1 _. next (given v r) plain w1 inner none (λ _. Ok Void) (λ w2 _. Ok Void) (typed-flat w1 Plain inner)
      (λ w2 _. refl))
  typed_statement-flat v r i p (Case value inner) =
      next (given v r) plain v value (part plain (flat inner) none) (λ _. Ok Void) (λ w1 _. typed w1 Plain inner >>= λ _. Ok Void) (typed-flat v Plain value)
      (λ w1 _. next (given v r) plain w1 inner none (λ _. Ok Void) (λ w2 _. Ok Void) (typed-flat w1 Plain inner)
      (λ w2 _. refl))
  typed_statement-flat v r i p (Default inner) =
      next (given v r) plain v inner none (λ _. Ok Void) (λ w1 _. Ok Void) (typed-flat v Plain inner)
      (λ w1 _. refl)
  typed_statement-flat v r i p (Label label inner) =
      next (given v r) plain v inner none (λ _. Ok Void) (λ w1 _. Ok Void) (typed-flat v Plain inner)
      (λ w1 _. refl)

  typed_iteration-flat : (v : Scopes) (r : Role) (i : ℕ) (p : Place) (k : IterationShape) → typed_iteration v r p k ≡ visited v r (visit i p (Iteration k) (iteration_parts k))
  typed_iteration-flat v r i p (While condition inner) =
      next (given v r) plain v condition (part plain (flat inner) none) (λ _. Ok Void) (λ w1 _. typed w1 Plain inner >>= λ _. Ok Void) (typed-flat v Plain condition)
      (λ w1 _. next (given v r) plain w1 inner none (λ _. Ok Void) (λ w2 _. Ok Void) (typed-flat w1 Plain inner)
      (λ w2 _. refl))
  typed_iteration-flat v r i p (Do inner condition) =
      next (given v r) plain v inner (part plain (flat condition) none) (λ _. Ok Void) (λ w1 _. typed w1 Plain condition >>= λ _. Ok Void) (typed-flat v Plain inner)
      (λ w1 _. next (given v r) plain w1 condition none (λ _. Ok Void) (λ w2 _. Ok Void) (typed-flat w1 Plain condition)
      (λ w2 _. refl))
  typed_iteration-flat v r i p (For first condition step inner) =
      maybe-flat (given v r) plain v first (maybe plain condition (maybe plain step (part plain (flat inner) none))) (Ok Void) (λ w1. typed_maybe w1 Plain condition >>= λ _. typed_maybe (scoped_maybe w1 Plain condition) Plain step >>= λ _. typed (scoped_maybe (scoped_maybe w1 Plain condition) Plain step) Plain inner >>= λ _. Ok Void)
      (λ w1. maybe-flat (given v r) plain w1 condition (maybe plain step (part plain (flat inner) none)) (Ok Void) (λ w2. typed_maybe w2 Plain step >>= λ _. typed (scoped_maybe w2 Plain step) Plain inner >>= λ _. Ok Void)
      (λ w2. maybe-flat (given v r) plain w2 step (part plain (flat inner) none) (Ok Void) (λ w3. typed w3 Plain inner >>= λ _. Ok Void)
      (λ w3. next (given v r) plain w3 inner none (λ _. Ok Void) (λ w4 _. Ok Void) (typed-flat w3 Plain inner)
      (λ w4 _. refl))))
  typed_iteration-flat v r i p (ForDeclaration declaration condition step inner) =
      next (given v r) plain (deeper v) declaration (maybe plain condition (maybe plain step (part plain (flat inner) none))) (λ _. Ok Void) (λ w1 _. typed_maybe w1 Plain condition >>= λ _. typed_maybe (scoped_maybe w1 Plain condition) Plain step >>= λ _. typed (scoped_maybe (scoped_maybe w1 Plain condition) Plain step) Plain inner >>= λ _. Ok Void) (typed-flat (deeper v) Plain declaration)
      (λ w1 _. maybe-flat (given v r) plain w1 condition (maybe plain step (part plain (flat inner) none)) (Ok Void) (λ w2. typed_maybe w2 Plain step >>= λ _. typed (scoped_maybe w2 Plain step) Plain inner >>= λ _. Ok Void)
      (λ w2. maybe-flat (given v r) plain w2 step (part plain (flat inner) none) (Ok Void) (λ w3. typed w3 Plain inner >>= λ _. Ok Void)
      (λ w3. next (given v r) plain w3 inner none (λ _. Ok Void) (λ w4 _. Ok Void) (typed-flat w3 Plain inner)
      (λ w4 _. refl))))

  typed_jump-flat : (v : Scopes) (r : Role) (i : ℕ) (p : Place) (k : JumpShape) → typed_jump v r p k ≡ visited v r (visit i p (Jump k) (jump_parts k))
  typed_jump-flat v r i p (Goto label) = refl
  typed_jump-flat v r i p Continue = refl
  typed_jump-flat v r i p Break = refl
  typed_jump-flat v r i p (Return value) =
      maybe-flat (given v r) plain v value none (Ok Void) (λ w1. Ok Void)
      (λ w1. refl)

  maybe-flat : (roles : Slot → Role) (slot : Slot) (v : Scopes) (m : MaybeNode) (rest : Parts) (k : Result CType Fault) (f : Scopes → Result CType Fault)
      → ((w : Scopes) → f w ≡ (visited_all roles w rest >>= λ _. k))
      → (typed_maybe v (roles slot) m >>= λ _. f (scoped_maybe v (roles slot) m)) ≡ (visited_all roles v (maybe slot m rest) >>= λ _. k)
  maybe-flat roles slot v absent rest k f h = h v
  maybe-flat roles slot v (present e) rest k f h = next roles slot v e rest (λ _. k) (λ w _. f w) (typed-flat v (roles slot) e) (λ w _. h w)

  pub each-flat : (roles : Slot → Role) (slot : Slot) (v : Scopes) (es : Nodes) (rest : Parts) (k : Result CType Fault) (f : Scopes → Result CType Fault)
      → ((w : Scopes) → f w ≡ (visited_all roles w rest >>= λ _. k))
      → (typed_each v (roles slot) es >>= λ _. f (scoped_each v (roles slot) es)) ≡ (visited_all roles v (each slot es rest) >>= λ _. k)
  each-flat roles slot v no_more rest k f h = h v
  each-flat roles slot v (more e es) rest k f h =
      sym (bind-twice (typed v (roles slot) e) (typed_each (scoped v (roles slot) e) (roles slot) es) (f (scoped_each (scoped v (roles slot) e) (roles slot) es)))
      ∙ next roles slot v e (each slot es rest) (λ _. k) (λ w _. typed_each w (roles slot) es >>= λ _. f (scoped_each w (roles slot) es)) (typed-flat v (roles slot) e) (λ w _. each-flat roles slot w es rest k f h)

  beside-flat : (roles : Slot → Role) (slot : Slot) (v : Scopes) (es : Nodes) (k : Result CType Fault) → roles plain ≡ Plain
      → (typed_beside v (roles slot) es >>= λ _. k) ≡ (visited_all roles v (first_in slot es) >>= λ _. k)
  beside-flat roles slot v no_more k h = refl
  beside-flat roles slot v (more e es) k h =
      ap (λ a. (typed v (roles slot) e >>= λ _. a) >>= λ _. k) (beside-plain (scoped v (roles slot) e) es)
      ∙ ap (λ r. (typed v (roles slot) e >>= λ _. typed_each (scoped v (roles slot) e) r es) >>= λ _. k) (sym h)
      ∙ sym (bind-twice (typed v (roles slot) e) (typed_each (scoped v (roles slot) e) (roles plain) es) k)
      ∙ next roles slot v e (each plain es none) (λ _. k) (λ w _. typed_each w (roles plain) es >>= λ _. k) (typed-flat v (roles slot) e) (λ w _. each-flat roles plain w es none k (λ _. k) (λ _. refl))
