-- A way to prove that parts stand in a unit (`UnitPlaces/Standing`): a line for each kind of node.
-- That the parts of a node stand where it stands, written out for each kind, as code goes down it. The scopes are those before
-- the node; the parts come in the order of the text.
use Rattle.std.specs.Prelude.{cond, ⊤}
use Rattle.c_tree.specs.Node.{Shape, Primary, Operation, Initializer, Specifier, Declarator, Part, Outer, Statement, Iteration, Jump, PrimaryShape, OperationShape, InitializerShape, SpecifierShape, DeclaratorShape, PartShape, OuterShape, StatementShape, IterationShape, JumpShape, Ident, Constant, StrConst, Paren, VaArg, Offsetof, Hole, Index, Call, Member, Arrow, CompoundLit, Unary, SizeofType, Cast, Binary, Cond, Assign, Init, Braces, Designated, TypeName, Specs, StructTag, StructBody, EnumTag, EnumBody, StructDeclaration, BitField, Param, Named, Nested, Unnamed, SpecWord, ArrayBound, VoidParams, Params, Enumerator, MemberDesignator, IndexDesignator, Declaration, Function, Empty, Block, ExprStmt, If, Switch, Case, Default, Label, While, Do, For, ForDeclaration, Goto, Continue, Break, Return, Nodes}
use Rattle.type_rules.specs.Declarators.{is_bare}
use Rattle.type_rules.specs.Moves.{opened_block}
use Rattle.type_rules.specs.Roles.{Role, Plain, Callee, Declares, Defines, Formal, Inside, Body, owner_of, inner_role, specs_role, item_role}
use Rattle.type_rules.specs.Roles as roles
use Rattle.type_rules.specs.Scopes.{Scopes, Enums, deeper}
use Rattle.type_rules.specs.Ways.ScopesByCase.{scoped, scoped_maybe, scoped_each}
use Rattle.type_rules.specs.Specified.{specified_type, storage_of}
use Rattle.type_rules.specs.Tags.{sort_of, body_number, body_opened}
use Rattle.typed_unit.specs.Places.{StandsAt}
use Rattle.typed_unit.specs.UnitPlaces.Standing.{MaybeStands, EachStands, SuffixesStand}

-- expressions
abbrev pub PrimaryParts : Nodes → Scopes → Role → PrimaryShape → Type 0
PrimaryParts unit v r (Ident name) = ⊤
PrimaryParts unit v r (Constant token) = ⊤
PrimaryParts unit v r (StrConst literals) = ⊤
PrimaryParts unit v r (Paren inner) = StandsAt unit v Plain inner
PrimaryParts unit v r (VaArg list of) = StandsAt unit v Plain list × StandsAt unit (scoped v Plain list) Plain of
PrimaryParts unit v r (Offsetof of member path) = StandsAt unit v Plain of × EachStands unit (scoped v Plain of) Plain path
PrimaryParts unit v r (Hole number) = ⊤

abbrev pub OperationParts : Nodes → Scopes → Role → OperationShape → Type 0
OperationParts unit v r (Index array index) = StandsAt unit v Plain array × StandsAt unit (scoped v Plain array) Plain index
OperationParts unit v r (Call function paren arguments) = StandsAt unit v Callee function × EachStands unit (scoped v Callee function) Plain arguments
OperationParts unit v r (Member operand name) = StandsAt unit v Plain operand
OperationParts unit v r (Arrow operand name) = StandsAt unit v Plain operand
OperationParts unit v r (CompoundLit of braces) = StandsAt unit v Plain of × StandsAt unit (scoped v Plain of) Plain braces
OperationParts unit v r (Unary op operand) = StandsAt unit v Plain operand
OperationParts unit v r (SizeofType of) = StandsAt unit v Plain of
OperationParts unit v r (Cast to operand) = StandsAt unit v Plain to × StandsAt unit (scoped v Plain to) Plain operand
OperationParts unit v r (Binary op left right) = StandsAt unit v Plain left × StandsAt unit (scoped v Plain left) Plain right
OperationParts unit v r (Cond condition then otherwise) = StandsAt unit v Plain condition × StandsAt unit (scoped v Plain condition) Plain then × StandsAt unit (scoped (scoped v Plain condition) Plain then) Plain otherwise
OperationParts unit v r (Assign op left right) = StandsAt unit v Plain left × StandsAt unit (scoped v Plain left) Plain right

-- The declarator has the role of the whole; its name is an expression behind it, and in force in the initial.
abbrev pub InitializerParts : Nodes → Scopes → Role → InitializerShape → Type 0
InitializerParts unit v r (Init name declarator initial) = StandsAt unit v r declarator × StandsAt unit (scoped v r declarator) Plain name × StandsAt unit (scoped (scoped v r declarator) Plain name) Plain initial
InitializerParts unit v r (Braces elements comma) = EachStands unit v Plain elements
InitializerParts unit v r (Designated designators initial) = EachStands unit v Plain designators × StandsAt unit (scoped_each v Plain designators) Plain initial

-- type names and specifiers
abbrev pub SpecifierParts : Nodes → Scopes → Role → SpecifierShape → Type 0
SpecifierParts unit v r (TypeName specs declarator) = StandsAt unit v Plain specs × MaybeStands unit (scoped v Plain specs) Plain declarator
SpecifierParts unit v r (Specs items) = EachStands unit v (item_role r items) items
SpecifierParts unit v r (StructTag which tag) = ⊤
SpecifierParts unit v r (StructBody which tag members) = EachStands unit (body_opened v (sort_of which) tag) (Inside (body_number v (sort_of which) tag)) members
SpecifierParts unit v r (EnumTag tag) = ⊤
SpecifierParts unit v r (EnumBody tag enumerators comma) = EachStands unit (body_opened v Enums tag) Plain enumerators
SpecifierParts unit v r (StructDeclaration specs declarators) = StandsAt unit v Plain specs × EachStands unit (scoped v Plain specs) (roles.Member (owner_of r) (specified_type v specs)) declarators
SpecifierParts unit v r (BitField declarator width) = MaybeStands unit v r declarator × StandsAt unit (scoped_maybe v r declarator) Plain width
SpecifierParts unit v r (Param specs declarator) = StandsAt unit v Plain specs × MaybeStands unit (scoped v Plain specs) (Formal (specified_type v specs)) declarator

-- what stands in parentheses comes before the suffixes
abbrev pub DeclaratorParts : Nodes → Scopes → Role → DeclaratorShape → Type 0
DeclaratorParts unit v r (Named pointers name suffixes) = SuffixesStand unit v (inner_role r) suffixes
DeclaratorParts unit v r (Nested pointers inner suffixes) =
    StandsAt unit v (cond (is_bare inner) Plain (inner_role r)) inner
    × SuffixesStand unit (scoped v (cond (is_bare inner) Plain (inner_role r)) inner) (cond (is_bare inner) (inner_role r) Plain) suffixes
DeclaratorParts unit v r (Unnamed pointers suffixes) = EachStands unit v Plain suffixes

-- parts of declarators and of bodies; a list of parameters opens a scope
abbrev pub PartParts : Nodes → Scopes → Role → PartShape → Type 0
PartParts unit v r (SpecWord word) = ⊤
PartParts unit v r (ArrayBound words bound) = MaybeStands unit v Plain bound
PartParts unit v r VoidParams = ⊤
PartParts unit v r (Params params variadic) = EachStands unit (deeper v) Plain params
PartParts unit v r (Enumerator name value) = MaybeStands unit v Plain value
PartParts unit v r (MemberDesignator member) = ⊤
PartParts unit v r (IndexDesignator index) = StandsAt unit v Plain index

-- declarations, and definitions of functions
abbrev pub OuterParts : Nodes → Scopes → Role → OuterShape → Type 0
OuterParts unit v r (Declaration specs declarators) = StandsAt unit v (specs_role declarators) specs × EachStands unit (scoped v (specs_role declarators) specs) (Declares (storage_of specs) (specified_type v specs)) declarators
OuterParts unit v r (Function specs declarator block) =
    StandsAt unit v Plain specs
    × StandsAt unit (scoped v Plain specs) (Defines (storage_of specs) (specified_type v specs)) declarator
    × StandsAt unit (scoped (scoped v Plain specs) (Defines (storage_of specs) (specified_type v specs)) declarator) Body block
OuterParts unit v r Empty = ⊤

-- statements; a block opens a scope, with the parameters in it where it is the body of a function
abbrev pub StatementParts : Nodes → Scopes → Role → StatementShape → Type 0
StatementParts unit v r (Block items) = EachStands unit (opened_block v r) Plain items
StatementParts unit v r (ExprStmt value) = MaybeStands unit v Plain value
StatementParts unit v r (If condition then otherwise) = StandsAt unit v Plain condition × StandsAt unit (scoped v Plain condition) Plain then × MaybeStands unit (scoped (scoped v Plain condition) Plain then) Plain otherwise
StatementParts unit v r (Switch value inner) = StandsAt unit v Plain value × StandsAt unit (scoped v Plain value) Plain inner
StatementParts unit v r (Case value inner) = StandsAt unit v Plain value × StandsAt unit (scoped v Plain value) Plain inner
StatementParts unit v r (Default inner) = StandsAt unit v Plain inner
StatementParts unit v r (Label label inner) = StandsAt unit v Plain inner

-- iterations; a `for` that begins with a declaration opens a scope
abbrev pub IterationParts : Nodes → Scopes → Role → IterationShape → Type 0
IterationParts unit v r (While condition inner) = StandsAt unit v Plain condition × StandsAt unit (scoped v Plain condition) Plain inner
IterationParts unit v r (Do inner condition) = StandsAt unit v Plain inner × StandsAt unit (scoped v Plain inner) Plain condition
IterationParts unit v r (For first condition step inner) =
    MaybeStands unit v Plain first
    × MaybeStands unit (scoped_maybe v Plain first) Plain condition
    × MaybeStands unit (scoped_maybe (scoped_maybe v Plain first) Plain condition) Plain step
    × StandsAt unit (scoped_maybe (scoped_maybe (scoped_maybe v Plain first) Plain condition) Plain step) Plain inner
IterationParts unit v r (ForDeclaration declaration condition step inner) =
    StandsAt unit (deeper v) Plain declaration
    × MaybeStands unit (scoped (deeper v) Plain declaration) Plain condition
    × MaybeStands unit (scoped_maybe (scoped (deeper v) Plain declaration) Plain condition) Plain step
    × StandsAt unit (scoped_maybe (scoped_maybe (scoped (deeper v) Plain declaration) Plain condition) Plain step) Plain inner

-- jumps
abbrev pub JumpParts : Nodes → Scopes → Role → JumpShape → Type 0
JumpParts unit v r (Goto label) = ⊤
JumpParts unit v r Continue = ⊤
JumpParts unit v r Break = ⊤
JumpParts unit v r (Return value) = MaybeStands unit v Plain value

-- the parts of a node of this kind, which stands under these scopes, in this role
abbrev pub PartsStandAt : Nodes → Scopes → Role → Shape → Type 0
PartsStandAt unit v r (Primary k) = PrimaryParts unit v r k
PartsStandAt unit v r (Operation k) = OperationParts unit v r k
PartsStandAt unit v r (Initializer k) = InitializerParts unit v r k
PartsStandAt unit v r (Specifier k) = SpecifierParts unit v r k
PartsStandAt unit v r (Declarator k) = DeclaratorParts unit v r k
PartsStandAt unit v r (Part k) = PartParts unit v r k
PartsStandAt unit v r (Outer k) = OuterParts unit v r k
PartsStandAt unit v r (Statement k) = StatementParts unit v r k
PartsStandAt unit v r (Iteration k) = IterationParts unit v r k
PartsStandAt unit v r (Jump k) = JumpParts unit v r k
