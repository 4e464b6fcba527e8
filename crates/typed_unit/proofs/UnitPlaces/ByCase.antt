-- Where a node stands its parts stand, for each kind of node.
use Rattle.std.proofs.Common.{ℕ, refl}
use Rattle.c_tree.specs.declared.place.Place.{Place}
use Rattle.c_tree.specs.Node.{Node, node, Shape, Primary, Operation, Initializer, Specifier, Declarator, Part, Outer, Statement, Iteration, Jump, PrimaryShape, OperationShape, InitializerShape, SpecifierShape, DeclaratorShape, PartShape, OuterShape, StatementShape, IterationShape, JumpShape, Ident, Constant, StrConst, Paren, VaArg, Offsetof, Hole, Index, Call, Member, Arrow, CompoundLit, Unary, SizeofType, Cast, Binary, Cond, Assign, Init, Braces, Designated, TypeName, Specs, StructTag, StructBody, EnumTag, EnumBody, StructDeclaration, BitField, Param, Named, Nested, Unnamed, SpecWord, ArrayBound, VoidParams, Params, Enumerator, MemberDesignator, IndexDesignator, Declaration, Function, Empty, Block, ExprStmt, If, Switch, Case, Default, Label, While, Do, For, ForDeclaration, Goto, Continue, Break, Return, MaybeNode, Nodes}
use Rattle.type_rules.specs.Moves.{opened, opened_block}
use Rattle.type_rules.specs.Parts.{Slot, plain, callee, same, specs_of, item_of, declared_by, defined_by, formal_by, member_by, beside_name, toward, beside, inside, body, none, part, flat, parts, maybe, each, first_in, primary_parts, operation_parts, initializer_parts, specifier_parts, declarator_parts, part_parts, outer_parts, statement_parts, iteration_parts, jump_parts}
use Rattle.type_rules.specs.Roles.{Role, Plain, given}
use Rattle.type_rules.specs.Scopes.{Scopes, Enums, deeper}
use Rattle.type_rules.specs.Ways.ScopesByCase.{scoped, scoped_maybe}
use Rattle.type_rules.specs.Tags.{sort_of, body_opened}
use Rattle.typed_unit.specs.Places.{StandsAt}
use Rattle.typed_unit.specs.Ways.PartsByCase.{PrimaryParts, OperationParts, InitializerParts, SpecifierParts, DeclaratorParts, PartParts, OuterParts, StatementParts, IterationParts, JumpParts, PartsStandAt}
use Rattle.typed_unit.specs.UnitPlaces.Standing.{AreVisited, MaybeStands, EachStands}
use Rattle.typed_unit.proofs.UnitPlaces.Steps.{next, maybe-next, each-next, suffixes}
use Rattle.typed_unit.proofs.UnitPlaces.Visited.{parts-visited}

-- two parts
both : (unit : Nodes) (roles : Slot → Role) (s t : Slot) (v : Scopes) (d e : Node) → AreVisited unit roles v (part s (flat d) (part t (flat e) none))
    → StandsAt unit v (roles s) d × StandsAt unit (scoped v (roles s) d) (roles t) e
both unit roles s t v d e h = let a = next unit roles s v d (part t (flat e) none) h in (a.0, a.1.0)

-- three parts
three : (unit : Nodes) (roles : Slot → Role) (s t u : Slot) (v : Scopes) (c d e : Node) → AreVisited unit roles v (part s (flat c) (part t (flat d) (part u (flat e) none)))
    → StandsAt unit v (roles s) c × StandsAt unit (scoped v (roles s) c) (roles t) d × StandsAt unit (scoped (scoped v (roles s) c) (roles t) d) (roles u) e
three unit roles s t u v c d e h =
    let a = next unit roles s v c (part t (flat d) (part u (flat e) none)) h in
    let b = both unit roles t u (scoped v (roles s) c) d e a.1 in
    (a.0, b.0, b.1)

-- a part and one that may be missing
and-maybe : (unit : Nodes) (roles : Slot → Role) (s t : Slot) (v : Scopes) (e : Node) (m : MaybeNode) → AreVisited unit roles v (part s (flat e) (maybe t m none))
    → StandsAt unit v (roles s) e × MaybeStands unit (scoped v (roles s) e) (roles t) m
and-maybe unit roles s t v e m h =
    let a = next unit roles s v e (maybe t m none) h in
    (a.0, (maybe-next unit roles t (scoped v (roles s) e) m none a.1).0)

-- a part and a list of parts
and-each : (unit : Nodes) (roles : Slot → Role) (s t : Slot) (v : Scopes) (e : Node) (es : Nodes) → AreVisited unit roles v (part s (flat e) (each t es none))
    → StandsAt unit v (roles s) e × EachStands unit (scoped v (roles s) e) (roles t) es
and-each unit roles s t v e es h =
    let a = next unit roles s v e (each t es none) h in
    (a.0, (each-next unit roles t (scoped v (roles s) e) es none a.1).0)

primary : (unit : Nodes) (v : Scopes) (r : Role) (k : PrimaryShape) → AreVisited unit (given v r) v (primary_parts k) → PrimaryParts unit v r k
primary unit v r (Ident name) h = tt
primary unit v r (Constant token) h = tt
primary unit v r (StrConst literals) h = tt
primary unit v r (Paren inner) h = h.0
primary unit v r (VaArg list of) h = both unit (given v r) plain plain v list of h
primary unit v r (Offsetof of member path) h = and-each unit (given v r) plain plain v of path h
primary unit v r (Hole number) h = tt

operation : (unit : Nodes) (v : Scopes) (r : Role) (k : OperationShape) → AreVisited unit (given v r) v (operation_parts k) → OperationParts unit v r k
operation unit v r (Index array index) h = both unit (given v r) plain plain v array index h
operation unit v r (Call function paren arguments) h = and-each unit (given v r) callee plain v function arguments h
operation unit v r (Member operand name) h = h.0
operation unit v r (Arrow operand name) h = h.0
operation unit v r (CompoundLit of braces) h = both unit (given v r) plain plain v of braces h
operation unit v r (Unary op operand) h = h.0
operation unit v r (SizeofType of) h = h.0
operation unit v r (Cast to operand) h = both unit (given v r) plain plain v to operand h
operation unit v r (Binary op left right) h = both unit (given v r) plain plain v left right h
operation unit v r (Cond condition then otherwise) h = three unit (given v r) plain plain plain v condition then otherwise h
operation unit v r (Assign op left right) h = both unit (given v r) plain plain v left right h

initializer : (unit : Nodes) (v : Scopes) (r : Role) (k : InitializerShape) → AreVisited unit (given v r) v (initializer_parts k) → InitializerParts unit v r k
initializer unit v r (Init name declarator initial) h = three unit (given v r) same plain plain v declarator name initial h
initializer unit v r (Braces elements comma) h = (each-next unit (given v r) plain v elements none h).0
initializer unit v r (Designated designators initial) h =
    let a = each-next unit (given v r) plain v designators (part plain (flat initial) none) h in (a.0, a.1.0)

specifier : (unit : Nodes) (v : Scopes) (r : Role) (k : SpecifierShape) → AreVisited unit (given v r) (opened v r (Specifier k)) (specifier_parts k) → SpecifierParts unit v r k
specifier unit v r (TypeName specs declarator) h = and-maybe unit (given v r) plain plain v specs declarator h
specifier unit v r (Specs items) h = (each-next unit (given v r) (item_of items) v items none h).0
specifier unit v r (StructTag which tag) h = tt
specifier unit v r (StructBody which tag members) h = (each-next unit (given v r) (inside which tag) (body_opened v (sort_of which) tag) members none h).0
specifier unit v r (EnumTag tag) h = tt
specifier unit v r (EnumBody tag enumerators comma) h = (each-next unit (given v r) plain (body_opened v Enums tag) enumerators none h).0
specifier unit v r (StructDeclaration specs declarators) h = and-each unit (given v r) plain (member_by specs) v specs declarators h
specifier unit v r (BitField declarator width) h =
    let a = maybe-next unit (given v r) same v declarator (part plain (flat width) none) h in (a.0, a.1.0)
specifier unit v r (Param specs declarator) h = and-maybe unit (given v r) plain (formal_by specs) v specs declarator h

declarator : (unit : Nodes) (v : Scopes) (r : Role) (k : DeclaratorShape) → AreVisited unit (given v r) v (declarator_parts k) → DeclaratorParts unit v r k
declarator unit v r (Named pointers name ds) h = suffixes unit (given v r) beside_name v ds refl h
declarator unit v r (Nested pointers inner ds) h =
    let a = next unit (given v r) (toward inner) v inner (first_in (beside inner) ds) h in
    (a.0, suffixes unit (given v r) (beside inner) (scoped v (given v r (toward inner)) inner) ds refl a.1)
declarator unit v r (Unnamed pointers ds) h = (each-next unit (given v r) plain v ds none h).0

a-part : (unit : Nodes) (v : Scopes) (r : Role) (k : PartShape) → AreVisited unit (given v r) (opened v r (Part k)) (part_parts k) → PartParts unit v r k
a-part unit v r (SpecWord word) h = tt
a-part unit v r (ArrayBound words bound) h = (maybe-next unit (given v r) plain v bound none h).0
a-part unit v r VoidParams h = tt
a-part unit v r (Params params variadic) h = (each-next unit (given v r) plain (deeper v) params none h).0
a-part unit v r (Enumerator name value) h = (maybe-next unit (given v r) plain v value none h).0
a-part unit v r (MemberDesignator member) h = tt
a-part unit v r (IndexDesignator index) h = h.0

outer : (unit : Nodes) (v : Scopes) (r : Role) (k : OuterShape) → AreVisited unit (given v r) v (outer_parts k) → OuterParts unit v r k
outer unit v r (Declaration specs declarators) h = and-each unit (given v r) (specs_of declarators) (declared_by specs) v specs declarators h
outer unit v r (Function specs declarator block) h = three unit (given v r) plain (defined_by specs) body v specs declarator block h
outer unit v r Empty h = tt

statement : (unit : Nodes) (v : Scopes) (r : Role) (k : StatementShape) → AreVisited unit (given v r) (opened v r (Statement k)) (statement_parts k) → StatementParts unit v r k
statement unit v r (Block items) h = (each-next unit (given v r) plain (opened_block v r) items none h).0
statement unit v r (ExprStmt value) h = (maybe-next unit (given v r) plain v value none h).0
statement unit v r (If condition then otherwise) h =
    let a = next unit (given v r) plain v condition (part plain (flat then) (maybe plain otherwise none)) h in
    let b = and-maybe unit (given v r) plain plain (scoped v Plain condition) then otherwise a.1 in
    (a.0, b.0, b.1)
statement unit v r (Switch value inner) h = both unit (given v r) plain plain v value inner h
statement unit v r (Case value inner) h = both unit (given v r) plain plain v value inner h
statement unit v r (Default inner) h = h.0
statement unit v r (Label label inner) h = h.0

-- two parts that may be missing, and one more
then-inner : (unit : Nodes) (roles : Slot → Role) (v : Scopes) (condition step : MaybeNode) (inner : Node) → AreVisited unit roles v (maybe plain condition (maybe plain step (part plain (flat inner) none)))
    → MaybeStands unit v (roles plain) condition × MaybeStands unit (scoped_maybe v (roles plain) condition) (roles plain) step × StandsAt unit (scoped_maybe (scoped_maybe v (roles plain) condition) (roles plain) step) (roles plain) inner
then-inner unit roles v condition step inner h =
    let a = maybe-next unit roles plain v condition (maybe plain step (part plain (flat inner) none)) h in
    let b = maybe-next unit roles plain (scoped_maybe v (roles plain) condition) step (part plain (flat inner) none) a.1 in
    (a.0, b.0, b.1.0)

iteration : (unit : Nodes) (v : Scopes) (r : Role) (k : IterationShape) → AreVisited unit (given v r) (opened v r (Iteration k)) (iteration_parts k) → IterationParts unit v r k
iteration unit v r (While condition inner) h = both unit (given v r) plain plain v condition inner h
iteration unit v r (Do inner condition) h = both unit (given v r) plain plain v inner condition h
iteration unit v r (For first condition step inner) h =
    let a = maybe-next unit (given v r) plain v first (maybe plain condition (maybe plain step (part plain (flat inner) none))) h in
    let b = then-inner unit (given v r) (scoped_maybe v Plain first) condition step inner a.1 in
    (a.0, b.0, b.1, b.2)
iteration unit v r (ForDeclaration declaration condition step inner) h =
    let a = next unit (given v r) plain (deeper v) declaration (maybe plain condition (maybe plain step (part plain (flat inner) none))) h in
    let b = then-inner unit (given v r) (scoped (deeper v) Plain declaration) condition step inner a.1 in
    (a.0, b.0, b.1, b.2)

jump : (unit : Nodes) (v : Scopes) (r : Role) (k : JumpShape) → AreVisited unit (given v r) v (jump_parts k) → JumpParts unit v r k
jump unit v r (Goto label) h = tt
jump unit v r Continue h = tt
jump unit v r Break h = tt
jump unit v r (Return value) h = (maybe-next unit (given v r) plain v value none h).0

shape : (unit : Nodes) (v : Scopes) (r : Role) (s : Shape) → AreVisited unit (given v r) (opened v r s) (parts s) → PartsStandAt unit v r s
shape unit v r (Primary k) h = primary unit v r k h
shape unit v r (Operation k) h = operation unit v r k h
shape unit v r (Initializer k) h = initializer unit v r k h
shape unit v r (Specifier k) h = specifier unit v r k h
shape unit v r (Declarator k) h = declarator unit v r k h
shape unit v r (Part k) h = a-part unit v r k h
shape unit v r (Outer k) h = outer unit v r k h
shape unit v r (Statement k) h = statement unit v r k h
shape unit v r (Iteration k) h = iteration unit v r k h
shape unit v r (Jump k) h = jump unit v r k h

pub by-case : (unit : Nodes) (v : Scopes) (r : Role) (i : ℕ) (p : Place) (s : Shape) → StandsAt unit v r (node i p s) → PartsStandAt unit v r s
by-case unit v r i p s h = shape unit v r s (parts-visited unit v r i p s (parts s) h)
