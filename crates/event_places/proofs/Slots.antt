-- Trees of the grammar have no definition of a function within, and no declaration but among the statements of a body.
use Rattle.std.proofs.Common.{ℕ, Bool, false, ◌||◌, Option, None, Some, inl, inr}
use Rattle.std.specs.Prelude.{⊤}
use Rattle.c_tree.specs.Forget.{syntax_of, primary_syntax, operation_syntax, initializer_syntax, specifier_syntax, declarator_syntax, part_syntax, statement_syntax, iteration_syntax, jump_syntax, maybe_syntax, syntaxes_of}
use Rattle.c_tree.specs.Node.{Node, node, Primary, Operation, Initializer, Specifier, Declarator, Part, Outer, Statement, Iteration, Jump, PrimaryShape, OperationShape, InitializerShape, SpecifierShape, DeclaratorShape, PartShape, StatementShape, IterationShape, JumpShape, Ident, Constant, StrConst, Paren, VaArg, Offsetof, Hole, Index, Call, Member, Arrow, CompoundLit, Unary, SizeofType, Cast, Binary, Cond, Assign, Init, Braces, Designated, TypeName, Specs, StructTag, StructBody, EnumTag, EnumBody, StructDeclaration, BitField, Param, Named, Nested, Unnamed, SpecWord, ArrayBound, VoidParams, Params, Enumerator, MemberDesignator, IndexDesignator, Declaration, Empty, Block, ExprStmt, If, Switch, Case, Default, Label, While, Do, For, ForDeclaration, Goto, Continue, Break, Return, MaybeNode, absent, present, Nodes, no_more, more}
use Rattle.c_grammar.specs.Grammar.{IsItem, AreItems, AreSpecifiers, IsTag, IsExpr, IsPrimary, IsOperation, AreArguments, IsPath, IsDesignator, IsDesignatorPart, IsTypeName, IsTypeNameSpecifier, IsMaybeDeclarator, IsDeclarator, IsDirect, AreSuffixes, IsSuffix, IsSuffixPart, IsBound, AreParams, IsParam, IsParamSpecifier}
use Rattle.c_grammar.specs.Names.{Names, with_param}
use Rattle.c_grammar.specs.Nonterminal.{Form, Abstract, Either, WithName}
use Rattle.c_grammar.specs.Specifiers as specifiers
use Rattle.c_grammar.specs.Specifiers.{types}
use Rattle.c_grammar.specs.UnitGrammar.Declarations.{IsMaybeConstant, IsEnumerator, AreEnumerators, IsMemberDeclarator, AreMemberDeclarators, AreFullSpecifiers, AreSpecs, AreFullItems, IsFullItem, IsTagged, AreMembers, IsMember, IsMemberDeclaration, IsNameTree, IsInitial, IsBraces, AreInitials, IsInitDeclarator, AreInitDeclarators, IsDeclaration}
use Rattle.c_grammar.specs.UnitGrammar.Names.{declared}
use Rattle.c_grammar.specs.UnitGrammar.Statements.{IsMaybeExpr, IsStatement, IsPlain, IsElse, IsIteration, IsJump, AreBlockItems, AreStatements}
use Rattle.type_rules.specs.Parts.{Slot, plain, same, item_of, declared_by, defined_by, formal_by, member_by, beside_name, beside, inside, body, Visit, visit, Parts, none, part, flat, primary_parts, operation_parts, initializer_parts, specifier_parts, declarator_parts, part_parts, statement_parts, iteration_parts, jump_parts, maybe, each, first_in}

-- the slot of no declared name, of no definition, and of no body
abbrev pub IsInner : Slot → Type 0
IsInner (declared_by specs) = ⊥
IsInner (defined_by specs) = ⊥
IsInner body = ⊥
IsInner _ = ⊤

-- of no definition, and of no body
abbrev pub IsWithin : Slot → Type 0
IsWithin (defined_by specs) = ⊥
IsWithin body = ⊥
IsWithin _ = ⊤

inner-within : (slot : Slot) → IsInner slot → IsWithin slot
inner-within (declared_by specs) h = absurd h
inner-within (defined_by specs) h = absurd h
inner-within body h = absurd h
inner-within slot h = tt

-- each slot in the tree, or of these parts, is such
abbrev mutual
  pub Slots : (Slot → Type 0) → Visit → Type 0
  Slots S (visit i p s es) = SlotsOf S es

  pub SlotsOf : (Slot → Type 0) → Parts → Type 0
  SlotsOf S none = ⊤
  SlotsOf S (part slot e es) = S slot × Slots S e × SlotsOf S es

mutual
  within : (e : Visit) → Slots IsInner e → Slots IsWithin e
  within (visit i p s es) h = all-within es h

  all-within : (es : Parts) → SlotsOf IsInner es → SlotsOf IsWithin es
  all-within none h = tt
  all-within (part slot e es) h = (inner-within slot h.0, within e h.1, all-within es h.2)

-- the slots in trees
abbrev pub AllSlots : (Slot → Type 0) → Nodes → Type 0
AllSlots S no_more = ⊤
AllSlots S (more n ns) = Slots S (flat n) × AllSlots S ns

abbrev MaybeSlots : (Slot → Type 0) → MaybeNode → Type 0
MaybeSlots S absent = ⊤
MaybeSlots S (present n) = Slots S (flat n)

each-slots : (S : Slot → Type 0) (slot : Slot) → S slot → (ns : Nodes) (rest : Parts) → AllSlots S ns → SlotsOf S rest → SlotsOf S (each slot ns rest)
each-slots S slot s no_more rest h k = k
each-slots S slot s (more n ns) rest h k = (s, h.0, each-slots S slot s ns rest h.1 k)

maybe-slots : (S : Slot → Type 0) (slot : Slot) → S slot → (m : MaybeNode) (rest : Parts) → MaybeSlots S m → SlotsOf S rest → SlotsOf S (maybe slot m rest)
maybe-slots S slot s absent rest h k = k
maybe-slots S slot s (present n) rest h k = (s, h, k)

-- of a tree, and of trees, in which no slot is that of a declared name
abbrev pub Inner : Node → Type 0
Inner n = Slots IsInner (flat n)

abbrev AllInner : Nodes → Type 0
AllInner ns = AllSlots IsInner ns

abbrev MaybeInner : MaybeNode → Type 0
MaybeInner m = MaybeSlots IsInner m

inner-each : (slot : Slot) → IsInner slot → (ns : Nodes) (rest : Parts) → AllInner ns → SlotsOf IsInner rest → SlotsOf IsInner (each slot ns rest)
inner-each = each-slots IsInner

inner-maybe : (slot : Slot) → IsInner slot → (m : MaybeNode) (rest : Parts) → MaybeInner m → SlotsOf IsInner rest → SlotsOf IsInner (maybe slot m rest)
inner-maybe = maybe-slots IsInner

inner-first : (slot : Slot) → IsInner slot → (ns : Nodes) → AllInner ns → SlotsOf IsInner (first_in slot ns)
inner-first slot s no_more h = tt
inner-first slot s (more n ns) h = (s, h.0, inner-each plain tt ns none h.1 tt)

-- a tag without a body
inner-tag : (n : Node) → IsTag (syntax_of n) → Inner n
inner-tag (node i p (Specifier (StructTag which tag))) h = tt
inner-tag (node i p (Specifier (EnumTag tag))) h = tt
inner-tag _ h = absurd h

inner-item : (names : Names) (typed : Bool) (n : Node) → IsItem IsTag names typed (syntax_of n) → Inner n
inner-item names typed (node i p (Part (SpecWord word))) h = tt
inner-item names typed (node i p (Specifier k)) h = inner-tag (node i p (Specifier k)) h
inner-item names typed _ h = absurd h

inner-items : (names : Names) (typed : Bool) (ns : Nodes) → AreItems IsTag names typed (syntaxes_of ns) → AllInner ns
inner-items names typed no_more h = tt
inner-items names typed (more n ns) h = (inner-item names typed n h.0, inner-items names (typed || types (syntax_of n)) ns h.1)

inner-specifiers : (place : specifiers.Place) (names : Names) (n : Node) → AreSpecifiers IsTag place names (syntax_of n) → Inner n
inner-specifiers place names (node i p (Specifier (Specs items))) h = inner-each (item_of items) tt items none (inner-items names false items h.0) tt
inner-specifiers place names _ h = absurd h

mutual
  -- EXPRESSIONS
  inner-expr : (names : Names) (n : Node) → IsExpr names (syntax_of n) → Inner n
  inner-expr names (node i p (Primary k)) h = inner-primary names k h
  inner-expr names (node i p (Operation k)) h = inner-operation names k h
  inner-expr names _ h = absurd h

  inner-primary : (names : Names) (k : PrimaryShape) → IsPrimary names (primary_syntax k) → SlotsOf IsInner (primary_parts k)
  inner-primary names (Ident name) h = tt
  inner-primary names (Constant token) h = tt
  inner-primary names (StrConst literals) h = tt
  inner-primary names (Paren inner) h = (tt, inner-expr names inner h, tt)
  inner-primary names (VaArg list of) h = (tt, inner-expr names list h.1, (tt, inner-type-name names of h.2, tt))
  inner-primary names (Offsetof of member path) h = (tt, inner-type-name names of h.0, inner-each plain tt path none (inner-path names path h.2) tt)
  inner-primary names (Hole number) h = absurd h

  inner-operation : (names : Names) (k : OperationShape) → IsOperation names (operation_syntax k) → SlotsOf IsInner (operation_parts k)
  inner-operation names (Index array index) h = (tt, inner-expr names array h.1, (tt, inner-expr names index h.2, tt))
  inner-operation names (Call function parenthesis arguments) h = (tt, inner-expr names function h.1, inner-each plain tt arguments none (inner-arguments names arguments h.2) tt)
  inner-operation names (Member x member) h = (tt, inner-expr names x h.1, tt)
  inner-operation names (Arrow x member) h = (tt, inner-expr names x h.1, tt)
  inner-operation names (CompoundLit of braces) h = absurd h
  inner-operation names (Unary op x) h = (tt, inner-expr names x h.1, tt)
  inner-operation names (SizeofType of) h = (tt, inner-type-name names of h, tt)
  inner-operation names (Cast to x) h = (tt, inner-type-name names to h.0, (tt, inner-expr names x h.2, tt))
  inner-operation names (Binary op x y) h = (tt, inner-expr names x h.1, (tt, inner-expr names y h.3, tt))
  inner-operation names (Cond x y z) h = (tt, inner-expr names x h.1, (tt, inner-expr names y h.2, (tt, inner-expr names z h.4, tt)))
  inner-operation names (Assign op x y) h = (tt, inner-expr names x h.1, (tt, inner-expr names y h.3, tt))

  inner-arguments : (names : Names) (ns : Nodes) → AreArguments names (syntaxes_of ns) → AllInner ns
  inner-arguments names no_more h = tt
  inner-arguments names (more n ns) h = (inner-expr names n h.1, inner-arguments names ns h.2)

  inner-path : (names : Names) (ns : Nodes) → IsPath names (syntaxes_of ns) → AllInner ns
  inner-path names no_more h = tt
  inner-path names (more n ns) h = (inner-designator names n h.0, inner-path names ns h.1)

  inner-designator : (names : Names) (n : Node) → IsDesignator names (syntax_of n) → Inner n
  inner-designator names (node i p (Part k)) h = inner-designator-part names k h
  inner-designator names _ h = absurd h

  inner-designator-part : (names : Names) (k : PartShape) → IsDesignatorPart names (part_syntax k) → SlotsOf IsInner (part_parts k)
  inner-designator-part names (MemberDesignator member) h = tt
  inner-designator-part names (IndexDesignator index) h = (tt, inner-expr names index h, tt)
  inner-designator-part names _ h = absurd h

  -- TYPE NAMES AND DECLARATORS
  inner-type-name : (names : Names) (n : Node) → IsTypeName names (syntax_of n) → Inner n
  inner-type-name names (node i p (Specifier k)) h = inner-type-specifier names k h
  inner-type-name names _ h = absurd h

  inner-type-specifier : (names : Names) (k : SpecifierShape) → IsTypeNameSpecifier names (specifier_syntax k) → SlotsOf IsInner (specifier_parts k)
  inner-type-specifier names (TypeName specs declarator) h = (tt, inner-specifiers specifiers.InTypeName names specs h.0, inner-maybe plain tt declarator none (inner-maybe-declarator Abstract names declarator h.1) tt)
  inner-type-specifier names _ h = absurd h

  inner-maybe-declarator : (form : Form) (names : Names) (m : MaybeNode) → IsMaybeDeclarator form names (maybe_syntax m) → MaybeInner m
  inner-maybe-declarator form names absent h = tt
  inner-maybe-declarator form names (present d) h = inner-declarator form names d h

  pub inner-declarator : (form : Form) (names : Names) (n : Node) → IsDeclarator form names (syntax_of n) → Inner n
  inner-declarator form names (node i p (Declarator k)) h = inner-direct form names k h
  inner-declarator form names _ h = absurd h

  inner-direct : (form : Form) (names : Names) (k : DeclaratorShape) → IsDirect form names (declarator_syntax k) → SlotsOf IsInner (declarator_parts k)
  inner-direct form names (Named pointers name suffixes) h = inner-first beside_name tt suffixes (inner-suffixes names suffixes h.3)
  inner-direct form names (Nested pointers inner suffixes) h = (tt, inner-declarator form names inner h.1, inner-first (beside inner) tt suffixes (inner-suffixes names suffixes h.3))
  inner-direct form names (Unnamed pointers suffixes) h = inner-each plain tt suffixes none (inner-suffixes names suffixes h.2) tt

  inner-suffixes : (names : Names) (ns : Nodes) → AreSuffixes names (syntaxes_of ns) → AllInner ns
  inner-suffixes names no_more h = tt
  inner-suffixes names (more n ns) h = (inner-suffix names n h.0, inner-suffixes names ns h.1)

  inner-suffix : (names : Names) (n : Node) → IsSuffix names (syntax_of n) → Inner n
  inner-suffix names (node i p (Part k)) h = inner-suffix-part names k h
  inner-suffix names _ h = absurd h

  inner-suffix-part : (names : Names) (k : PartShape) → IsSuffixPart names (part_syntax k) → SlotsOf IsInner (part_parts k)
  inner-suffix-part names (ArrayBound words bound) h = inner-maybe plain tt bound none (inner-bound names bound h.1) tt
  inner-suffix-part names VoidParams h = tt
  inner-suffix-part names (Params params variadic) h = inner-each plain tt params none (inner-params names params h.0) tt
  inner-suffix-part names _ h = absurd h

  inner-bound : (names : Names) (m : MaybeNode) → IsBound names (maybe_syntax m) → MaybeInner m
  inner-bound names absent h = tt
  inner-bound names (present e) h = inner-expr names e h.1

  inner-params : (names : Names) (ns : Nodes) → AreParams names (syntaxes_of ns) → AllInner ns
  inner-params names no_more h = tt
  inner-params names (more n ns) h = (inner-param names n h.0, inner-params (with_param (syntax_of n) names) ns h.1)

  inner-param : (names : Names) (n : Node) → IsParam names (syntax_of n) → Inner n
  inner-param names (node i p (Specifier k)) h = inner-param-specifier names k h
  inner-param names _ h = absurd h

  inner-param-specifier : (names : Names) (k : SpecifierShape) → IsParamSpecifier names (specifier_syntax k) → SlotsOf IsInner (specifier_parts k)
  inner-param-specifier names (Param specs declarator) h = (tt, inner-specifiers specifiers.InParam names specs h.0, inner-maybe (formal_by specs) tt declarator none (inner-maybe-declarator Either names declarator h.1) tt)
  inner-param-specifier names _ h = absurd h

inner-maybe-expr : (names : Names) (m : MaybeNode) → IsMaybeExpr names (maybe_syntax m) → MaybeInner m
inner-maybe-expr names absent h = tt
inner-maybe-expr names (present e) h = inner-expr names e h

inner-value : (names : Names) (m : MaybeNode) → IsMaybeConstant names (maybe_syntax m) → MaybeInner m
inner-value names absent h = tt
inner-value names (present e) h = inner-expr names e h.1

-- ENUMERATORS
inner-enumerator : (names : Names) (n : Node) → IsEnumerator names (syntax_of n) → Inner n
inner-enumerator names (node i p (Part (Enumerator name value))) h = inner-maybe plain tt value none (inner-value names value h.1) tt
inner-enumerator names _ h = absurd h

inner-enumerators : (names : Names) (ns : Nodes) → AreEnumerators names (syntaxes_of ns) → AllInner ns
inner-enumerators names no_more h = tt
inner-enumerators names (more n ns) h = (inner-enumerator names n h.0, inner-enumerators (declared (syntax_of n) names) ns h.1)

-- MEMBERS
inner-member-declarator : (names : Names) (n : Node) → IsMemberDeclarator names (syntax_of n) → Inner n
inner-member-declarator names (node i p (Declarator k)) h = inner-declarator WithName names (node i p (Declarator k)) h
inner-member-declarator names (node i p (Specifier (BitField declarator width))) h = inner-maybe same tt declarator (part plain (flat width) none) (inner-maybe-declarator WithName names declarator h.0) (tt, inner-expr names width h.1.1, tt)
inner-member-declarator names _ h = absurd h

inner-member-declarators : (names : Names) (ns : Nodes) → AreMemberDeclarators names (syntaxes_of ns) → AllInner ns
inner-member-declarators names no_more h = tt
inner-member-declarators names (more n ns) h = (inner-member-declarator names n h.0, inner-member-declarators names ns h.1)

mutual
  pub inner-full : (place : specifiers.Place) (names : Names) (n : Node) → AreFullSpecifiers place names (syntax_of n) → Inner n
  inner-full place names (node i p (Specifier k)) h = inner-specs place names k h
  inner-full place names _ h = absurd h

  inner-specs : (place : specifiers.Place) (names : Names) (k : SpecifierShape) → AreSpecs place names (specifier_syntax k) → SlotsOf IsInner (specifier_parts k)
  inner-specs place names (Specs items) h = inner-each (item_of items) tt items none (inner-full-items names false items h.0) tt
  inner-specs place names _ h = absurd h

  inner-full-items : (names : Names) (typed : Bool) (ns : Nodes) → AreFullItems names typed (syntaxes_of ns) → AllInner ns
  inner-full-items names typed no_more h = tt
  inner-full-items names typed (more n ns) h = (inner-full-item names typed n h.0, inner-full-items names (typed || types (syntax_of n)) ns h.1)

  inner-full-item : (names : Names) (typed : Bool) (n : Node) → IsFullItem names typed (syntax_of n) → Inner n
  inner-full-item names typed (node i p (Part (SpecWord word))) h = tt
  inner-full-item names typed (node i p (Specifier k)) h = inner-tagged names k h
  inner-full-item names typed _ h = absurd h

  inner-tagged : (names : Names) (k : SpecifierShape) → IsTagged names (specifier_syntax k) → SlotsOf IsInner (specifier_parts k)
  inner-tagged names (StructTag which tag) h = tt
  inner-tagged names (EnumTag tag) h = tt
  inner-tagged names (StructBody which tag members) h = inner-each (inside which tag) tt members none (inner-members names members h.1) tt
  inner-tagged names (EnumBody tag enumerators comma) h = inner-each plain tt enumerators none (inner-enumerators names enumerators h.1) tt
  inner-tagged names _ h = absurd h

  inner-members : (names : Names) (ns : Nodes) → AreMembers names (syntaxes_of ns) → AllInner ns
  inner-members names no_more h = tt
  inner-members names (more n ns) h = (inner-member names n h.0, inner-members (declared (syntax_of n) names) ns h.1)

  inner-member : (names : Names) (n : Node) → IsMember names (syntax_of n) → Inner n
  inner-member names (node i p (Outer Empty)) h = tt
  inner-member names (node i p (Specifier k)) h = inner-member-declaration names k h
  inner-member names _ h = absurd h

  inner-member-declaration : (names : Names) (k : SpecifierShape) → IsMemberDeclaration names (specifier_syntax k) → SlotsOf IsInner (specifier_parts k)
  inner-member-declaration names (StructDeclaration specs declarators) h =
      (tt, inner-full specifiers.InTypeName names specs h.0, inner-each (member_by specs) tt declarators none (inner-member-declarators (declared (syntax_of specs) names) declarators h.1) tt)
  inner-member-declaration names _ h = absurd h

-- INITIAL VALUES
mutual
  inner-initial : (names : Names) (n : Node) → IsInitial names (syntax_of n) → Inner n
  inner-initial names (node i p (Initializer k)) h = inner-braced names k h
  inner-initial names (node i p (Primary k)) h = inner-expr names (node i p (Primary k)) h.1
  inner-initial names (node i p (Operation k)) h = inner-expr names (node i p (Operation k)) h.1
  inner-initial names (node i p (Specifier k)) h = inner-expr names (node i p (Specifier k)) h.1
  inner-initial names (node i p (Declarator k)) h = inner-expr names (node i p (Declarator k)) h.1
  inner-initial names (node i p (Part k)) h = inner-expr names (node i p (Part k)) h.1
  inner-initial names (node i p (Outer k)) h = inner-expr names (node i p (Outer k)) h.1
  inner-initial names (node i p (Statement k)) h = inner-expr names (node i p (Statement k)) h.1
  inner-initial names (node i p (Iteration k)) h = inner-expr names (node i p (Iteration k)) h.1
  inner-initial names (node i p (Jump k)) h = inner-expr names (node i p (Jump k)) h.1

  inner-braced : (names : Names) (k : InitializerShape) → IsBraces names (initializer_syntax k) → SlotsOf IsInner (initializer_parts k)
  inner-braced names (Braces elements comma) h = inner-each plain tt elements none (inner-initials names elements h.0) tt
  inner-braced names (Init name declarator initial) h = absurd h
  inner-braced names (Designated designators initial) h = absurd h

  inner-initials : (names : Names) (ns : Nodes) → AreInitials names (syntaxes_of ns) → AllInner ns
  inner-initials names no_more h = tt
  inner-initials names (more n ns) h = (inner-initial names n h.0, inner-initials names ns h.1)

-- DECLARATIONS
name-inner : (o : Option ℕ) (n : Node) → IsNameTree o (syntax_of n) → Inner n
name-inner None n h = absurd h
name-inner (Some x) (node i p (Primary (Ident name))) h = tt
name-inner (Some x) (node i p (Primary k)) h = cc
name-inner (Some x) n h = cc

-- a declarator, with or without an initial value
pub inner-init-declarator : (type : Bool) (names : Names) (n : Node) → IsInitDeclarator type names (syntax_of n) → Inner n
inner-init-declarator type names (node i p (Declarator k)) h = inner-declarator WithName names (node i p (Declarator k)) h
inner-init-declarator type names (node i p (Initializer (Init name declarator initial))) h =
    (tt, inner-declarator WithName names declarator h.1, (tt, name-inner _ name h.0, (tt, inner-initial _ initial h.2, tt)))
inner-init-declarator type names _ h = absurd h

pub inner-init-declarators : (type : Bool) (names : Names) (ns : Nodes) → AreInitDeclarators type names (syntaxes_of ns) → AllInner ns
inner-init-declarators type names no_more h = tt
inner-init-declarators type names (more n ns) h = (inner-init-declarator type names n h.0, inner-init-declarators type _ ns h.1)

-- of a tree, and of trees, in which no slot is that of a definition
abbrev pub Within : Node → Type 0
Within n = Slots IsWithin (flat n)

inner-all : (ns : Nodes) → AllInner ns → AllSlots IsWithin ns
inner-all no_more h = tt
inner-all (more n ns) h = (within (flat n) h.0, inner-all ns h.1)

inner-some : (m : MaybeNode) → MaybeInner m → MaybeSlots IsWithin m
inner-some absent h = tt
inner-some (present n) h = within (flat n) h

within-expr : (names : Names) (n : Node) → IsExpr names (syntax_of n) → Within n
within-expr names n h = within (flat n) (inner-expr names n h)

within-maybe : (names : Names) (m : MaybeNode) (rest : Parts) → IsMaybeExpr names (maybe_syntax m) → SlotsOf IsWithin rest → SlotsOf IsWithin (maybe plain m rest)
within-maybe names m rest h k = maybe-slots IsWithin plain tt m rest (inner-some m (inner-maybe-expr names m h)) k

pub within-declaration : (names : Names) (n : Node) → IsDeclaration names (syntax_of n) → Within n
within-declaration names (node i p (Outer (Declaration specs declarators))) h =
    (tt, within (flat specs) (inner-full specifiers.InDeclaration names specs h.0), each-slots IsWithin (declared_by specs) tt declarators none (inner-all declarators (inner-init-declarators _ _ declarators h.1)) tt)
within-declaration names _ h = absurd h

-- STATEMENTS
mutual
  within-statement : (names : Names) (n : Node) → IsStatement names (syntax_of n) → Within n
  within-statement names (node i p (Statement k)) h = within-plain names k h
  within-statement names (node i p (Iteration k)) h = within-iteration names k h
  within-statement names (node i p (Jump k)) h = within-jump names k h
  within-statement names _ h = absurd h

  within-plain : (names : Names) (k : StatementShape) → IsPlain names (statement_syntax k) → SlotsOf IsWithin (statement_parts k)
  within-plain names (Block items) h = each-slots IsWithin plain tt items none (within-block names items h) tt
  within-plain names (ExprStmt value) h = within-maybe names value none h tt
  within-plain names (If condition then otherwise) h = (tt, within-expr names condition h.0, (tt, within-statement names then h.1, within-else names _ otherwise h.2))
  within-plain names (Switch value inner) h = (tt, within-expr names value h.0, (tt, within-statement names inner h.1, tt))
  within-plain names (Case value inner) h = (tt, within-expr names value h.0.1, (tt, within-statement names inner h.1, tt))
  within-plain names (Default inner) h = (tt, within-statement names inner h, tt)
  within-plain names (Label label inner) h = (tt, within-statement names inner h.1, tt)

  within-else : (names : Names) (taken : Bool) (m : MaybeNode) → IsElse names taken (maybe_syntax m) → SlotsOf IsWithin (maybe plain m none)
  within-else names taken absent h = tt
  within-else names taken (present e) h = (tt, within-statement names e h.1, tt)

  within-iteration : (names : Names) (k : IterationShape) → IsIteration names (iteration_syntax k) → SlotsOf IsWithin (iteration_parts k)
  within-iteration names (While condition inner) h = (tt, within-expr names condition h.0, (tt, within-statement names inner h.1, tt))
  within-iteration names (Do inner condition) h = (tt, within-statement names inner h.0, (tt, within-expr names condition h.1, tt))
  within-iteration names (For first condition step inner) h =
      within-maybe names first (maybe plain condition (maybe plain step (part plain (flat inner) none))) h.0
      (within-maybe names condition (maybe plain step (part plain (flat inner) none)) h.1 (within-maybe names step (part plain (flat inner) none) h.2 (tt, within-statement names inner h.3, tt)))
  within-iteration names (ForDeclaration declaration condition step inner) h = absurd h

  within-jump : (names : Names) (k : JumpShape) → IsJump names (jump_syntax k) → SlotsOf IsWithin (jump_parts k)
  within-jump names (Goto label) h = tt
  within-jump names Continue h = tt
  within-jump names Break h = tt
  within-jump names (Return value) h = within-maybe names value none h tt

  pub within-block : (names : Names) (ns : Nodes) → AreBlockItems names (syntaxes_of ns) → AllSlots IsWithin ns
  within-block names no_more h = tt
  within-block names (more n ns) (inl h) = (within-declaration names n h.0, within-block (declared (syntax_of n) names) ns h.1)
  within-block names (more n ns) (inr h) = (within-statement names n h.0, within-statements names ns h.1)

  within-statements : (names : Names) (ns : Nodes) → AreStatements names (syntaxes_of ns) → AllSlots IsWithin ns
  within-statements names no_more h = tt
  within-statements names (more n ns) h = (within-statement names n h.0, within-statements names ns h.1)
