-- What holds of each node of a tree, which is known of its line where it passes from a line to its parts.
use Rattle.std.proofs.Common.{inl, inr, refl}
use Rattle.std.specs.Prelude.{⊤}
use Rattle.c_grammar.specs.CPlaces.Lines.{Line, line_of, primary_line, operation_line, initializer_line, specifier_line, declarator_line, part_line, outer_line, statement_line, iteration_line, jump_line, maybe_line, assigned_line, else_line, row_line, list_line, more_line}
use Rattle.c_tree.specs.PathSubjects.Subjects.{Subject, Tree, DerefOf}
use Rattle.c_tree.specs.Node.{Node, node, Primary, Operation, Initializer, Specifier, Declarator, Part, Outer, Statement, Iteration, Jump, PrimaryShape, OperationShape, InitializerShape, SpecifierShape, DeclaratorShape, PartShape, OuterShape, StatementShape, IterationShape, JumpShape, Ident, Constant, StrConst, Paren, VaArg, Offsetof, Hole, Index, Call, Member, Arrow, CompoundLit, Unary, SizeofType, Cast, Binary, Cond, Assign, Init, Braces, Designated, TypeName, Specs, StructTag, StructBody, EnumTag, EnumBody, StructDeclaration, BitField, Param, Named, Nested, Unnamed, SpecWord, ArrayBound, VoidParams, Params, Enumerator, MemberDesignator, IndexDesignator, Declaration, Function, Empty, Block, ExprStmt, If, Switch, Case, Default, Label, While, Do, For, ForDeclaration, Goto, Continue, Break, Return, MaybeNode, absent, present, Nodes, no_more, more}
use Rattle.type_rules.specs.Parts.{Slot, plain, same, item_of, declared_by, formal_by, member_by, beside_name, beside, inside, Visit, visit, Parts, none, part, flat, primary_parts, operation_parts, initializer_parts, specifier_parts, declarator_parts, part_parts, outer_parts, statement_parts, iteration_parts, jump_parts, maybe, each, first_in}
use Rattle.event_places.specs.Naming.{IsNodeOf, IsNodeOfSome}
use Rattle.event_places.proofs.Lines.{PassesDown, operand-of}

-- each node of the tree, or of these parts, has the property
abbrev mutual
  pub Everywhere : (Node → Type 0) → Visit → Type 0
  Everywhere Q (visit i p s es) = Q (node i p s) × InParts Q es

  pub InParts : (Node → Type 0) → Parts → Type 0
  InParts Q none = ⊤
  InParts Q (part slot e es) = Everywhere Q e × InParts Q es

-- the same of the tree of a subject
abbrev pub OfSubject : (Node → Type 0) → Subject → Type 0
OfSubject Q (Tree n) = Everywhere Q (flat n)
OfSubject Q (DerefOf x) = Everywhere Q (flat x)

module _ (Q : Node → Type 0) where
  -- so has the tree itself
  pub own : (n : Node) → Everywhere Q (flat n) → Q n
  own (node i p s) h = h.0

  -- what each node that stands there has
  mutual
    pub everywhere : (e : Visit) → ((n : Node) → IsNodeOf n e → Q n) → Everywhere Q e
    everywhere (visit i p s es) k = (k (node i p s) (inl refl), in-parts es (λ n h. k n (inr h)))

    in-parts : (es : Parts) → ((n : Node) → IsNodeOfSome n es → Q n) → InParts Q es
    in-parts none k = tt
    in-parts (part slot e es) k = (everywhere e (λ n h. k n (inl h)), in-parts es (λ n h. k n (inr h)))

  -- some of the parts
  pub behind-each : (slot : Slot) (es : Nodes) (rest : Parts) → InParts Q (each slot es rest) → InParts Q rest
  behind-each slot no_more rest h = h
  behind-each slot (more e es) rest h = behind-each slot es rest h.1

  pub behind-maybe : (slot : Slot) (m : MaybeNode) (rest : Parts) → InParts Q (maybe slot m rest) → InParts Q rest
  behind-maybe slot absent rest h = h
  behind-maybe slot (present e) rest h = h.1

  pub maybe-alone : (slot : Slot) (m : MaybeNode) (rest : Parts) → InParts Q (maybe slot m rest) → InParts Q (maybe slot m none)
  maybe-alone slot absent rest h = tt
  maybe-alone slot (present e) rest h = (h.0, tt)

-- a property that follows
module _ (Q S : Node → Type 0) (g : (n : Node) → Q n → S n) where
  mutual
    pub everywhere-map : (e : Visit) → Everywhere Q e → Everywhere S e
    everywhere-map (visit i p s es) h = (g (node i p s) h.0, parts-map es h.1)

    pub parts-map : (es : Parts) → InParts Q es → InParts S es
    parts-map none h = tt
    parts-map (part slot e es) h = (everywhere-map e h.0, parts-map es h.1)

-- A PROPERTY OF LINES THAT PASSES DOWN
module _ (R : Line → Type 0) (d : PassesDown R) where
  abbrev Has : Node → Type 0
  Has n = R (line_of n)

  mutual
    pub of-node : (n : Node) → R (line_of n) → Everywhere Has (flat n)
    of-node (node i p (Primary k)) h = (h, of-primary k (d.back (d.front h)))
    of-node (node i p (Operation k)) h = (h, of-operation k (d.back (d.front h)))
    of-node (node i p (Initializer k)) h = (h, of-initializer k (d.back (d.front h)))
    of-node (node i p (Specifier k)) h = (h, of-specifier k (d.back (d.front h)))
    of-node (node i p (Declarator k)) h = (h, of-declarator k (d.back (d.front h)))
    of-node (node i p (Part k)) h = (h, of-part k (d.back (d.front h)))
    of-node (node i p (Outer k)) h = (h, of-outer k (d.back (d.front h)))
    of-node (node i p (Statement k)) h = (h, of-statement k (d.back (d.front h)))
    of-node (node i p (Iteration k)) h = (h, of-iteration k (d.back (d.front h)))
    of-node (node i p (Jump k)) h = (h, of-jump k (d.back (d.front h)))

    of-primary : (k : PrimaryShape) → R (primary_line k) → InParts Has (primary_parts k)
    of-primary (Ident name) h = tt
    of-primary (Constant token) h = tt
    of-primary (StrConst literals) h = tt
    of-primary (Paren inner) h = (of-node inner (d.back (d.front h)), tt)
    of-primary (VaArg list of) h = (of-node list (d.back (d.front (d.front (d.front h)))), (of-node of (d.back (d.front h)), tt))
    of-primary (Offsetof of member path) h = (of-node of (d.back (d.front (d.front (d.front (d.front h))))), of-row plain path none (d.back (d.front h)) tt)
    of-primary (Hole number) h = tt

    of-operation : (k : OperationShape) → R (operation_line k) → InParts Has (operation_parts k)
    of-operation (Index array index) h = (of-node array (d.front (d.front (d.front h))), (of-node index (d.back (d.front h)), tt))
    of-operation (Call function paren arguments) h = (of-node function (d.front (d.front (d.front (d.front h)))), of-list plain arguments none (d.back (d.front h)) tt)
    of-operation (Member operand member) h = (of-node operand (d.front (d.front h)), tt)
    of-operation (Arrow operand member) h = (of-node operand (d.front (d.front h)), tt)
    of-operation (CompoundLit of braces) h = (of-node of (d.back (d.front (d.front h))), (of-node braces (d.back h), tt))
    of-operation (Unary op operand) h = (of-node operand (operand-of R d op (line_of operand) h), tt)
    of-operation (SizeofType of) h = (of-node of (d.back (d.front h)), tt)
    of-operation (Cast to operand) h = (of-node to (d.back (d.front (d.front h))), (of-node operand (d.back h), tt))
    of-operation (Binary op left right) h = (of-node left (d.front (d.front h)), (of-node right (d.back h), tt))
    of-operation (Cond condition then otherwise) h =
        (of-node condition (d.front (d.front (d.front (d.front h)))), (of-node then (d.back (d.front (d.front h))), (of-node otherwise (d.back h), tt)))
    of-operation (Assign op left right) h = (of-node left (d.front (d.front h)), (of-node right (d.back h), tt))

    of-initializer : (k : InitializerShape) → R (initializer_line k) → InParts Has (initializer_parts k)
    of-initializer (Init name declarator initial) h =
        (of-node declarator (d.front (d.front (d.front h))), (of-node name (d.identifier declarator name (d.front (d.front h))), (of-node initial (d.back h), tt)))
    of-initializer (Braces elements comma) h = of-list plain elements none (d.back (d.front (d.front h))) tt
    of-initializer (Designated designators initial) h = of-row plain designators (part plain (flat initial) none) (d.front (d.front h)) (of-node initial (d.back h), tt)

    of-specifier : (k : SpecifierShape) → R (specifier_line k) → InParts Has (specifier_parts k)
    of-specifier (TypeName specs declarator) h = (of-node specs (d.front h), of-maybe plain declarator none (d.back h) tt)
    of-specifier (Specs items) h = of-row (item_of items) items none h tt
    of-specifier (StructTag which tag) h = tt
    of-specifier (StructBody which tag members) h = of-row (inside which tag) members none (d.back (d.front h)) tt
    of-specifier (EnumTag tag) h = tt
    of-specifier (EnumBody tag enumerators comma) h = of-list plain enumerators none (d.back (d.front (d.front h))) tt
    of-specifier (StructDeclaration specs declarators) h = (of-node specs (d.front (d.front h)), of-list (member_by specs) declarators none (d.back (d.front h)) tt)
    of-specifier (BitField declarator width) h = of-maybe same declarator (part plain (flat width) none) (d.front (d.front h)) (of-node width (d.back h), tt)
    of-specifier (Param specs declarator) h = (of-node specs (d.front h), of-maybe (formal_by specs) declarator none (d.back h) tt)

    of-declarator : (k : DeclaratorShape) → R (declarator_line k) → InParts Has (declarator_parts k)
    of-declarator (Named pointers name suffixes) h = of-suffixes beside_name suffixes (d.back h)
    of-declarator (Nested pointers inner suffixes) h = (of-node inner (d.back (d.front (d.front h))), of-suffixes (beside inner) suffixes (d.back h))
    of-declarator (Unnamed pointers suffixes) h = of-row plain suffixes none (d.back h) tt

    of-suffixes : (slot : Slot) (es : Nodes) → R (row_line es) → InParts Has (first_in slot es)
    of-suffixes slot no_more h = tt
    of-suffixes slot (more e es) h = (of-node e (d.front h), of-row plain es none (d.back h) tt)

    of-part : (k : PartShape) → R (part_line k) → InParts Has (part_parts k)
    of-part (SpecWord word) h = tt
    of-part (ArrayBound words bound) h = of-maybe plain bound none (d.back (d.front h)) tt
    of-part VoidParams h = tt
    of-part (Params params variadic) h = of-list plain params none (d.back (d.front (d.front h))) tt
    of-part (Enumerator name value) h = of-value value (d.back h)
    of-part (MemberDesignator member) h = tt
    of-part (IndexDesignator index) h = (of-node index (d.back (d.front h)), tt)

    of-value : (m : MaybeNode) → R (assigned_line m) → InParts Has (maybe plain m none)
    of-value absent h = tt
    of-value (present e) h = (of-node e (d.back h), tt)

    of-outer : (k : OuterShape) → R (outer_line k) → InParts Has (outer_parts k)
    of-outer (Declaration specs declarators) h = (of-node specs (d.front (d.front h)), of-list (declared_by specs) declarators none (d.back (d.front h)) tt)
    of-outer (Function specs declarator block) h = (of-node specs (d.front (d.front h)), (of-node declarator (d.back (d.front h)), (of-node block (d.back h), tt)))
    of-outer Empty h = tt

    of-statement : (k : StatementShape) → R (statement_line k) → InParts Has (statement_parts k)
    of-statement (Block items) h = of-row plain items none (d.back (d.front h)) tt
    of-statement (ExprStmt value) h = of-maybe plain value none (d.front h) tt
    of-statement (If condition then otherwise) h = (of-node condition (d.back (d.front (d.front (d.front h)))), (of-node then (d.back (d.front h)), of-else otherwise (d.back h)))
    of-statement (Switch value inner) h = (of-node value (d.back (d.front (d.front h))), (of-node inner (d.back h), tt))
    of-statement (Case value inner) h = (of-node value (d.back (d.front (d.front h))), (of-node inner (d.back h), tt))
    of-statement (Default inner) h = (of-node inner (d.back h), tt)
    of-statement (Label label inner) h = (of-node inner (d.back h), tt)

    of-else : (m : MaybeNode) → R (else_line m) → InParts Has (maybe plain m none)
    of-else absent h = tt
    of-else (present e) h = (of-node e (d.back h), tt)

    of-iteration : (k : IterationShape) → R (iteration_line k) → InParts Has (iteration_parts k)
    of-iteration (While condition inner) h = (of-node condition (d.back (d.front (d.front h))), (of-node inner (d.back h), tt))
    of-iteration (Do inner condition) h = (of-node inner (d.back (d.front (d.front (d.front (d.front (d.front h)))))), (of-node condition (d.back (d.front (d.front h))), tt))
    of-iteration (For first condition step inner) h =
        of-maybe plain first (maybe plain condition (maybe plain step (part plain (flat inner) none))) (d.back (d.front (d.front (d.front (d.front (d.front (d.front h)))))))
        (of-maybe plain condition (maybe plain step (part plain (flat inner) none)) (d.back (d.front (d.front (d.front (d.front h)))))
        (of-maybe plain step (part plain (flat inner) none) (d.back (d.front (d.front h))) (of-node inner (d.back h), tt)))
    of-iteration (ForDeclaration declaration condition step inner) h = (
      of-node declaration (d.back (d.front (d.front (d.front (d.front (d.front h)))))),
      of-maybe plain condition (maybe plain step (part plain (flat inner) none)) (d.back (d.front (d.front (d.front (d.front h)))))
          (of-maybe plain step (part plain (flat inner) none) (d.back (d.front (d.front h))) (of-node inner (d.back h), tt)),
    )

    of-jump : (k : JumpShape) → R (jump_line k) → InParts Has (jump_parts k)
    of-jump (Goto label) h = tt
    of-jump Continue h = tt
    of-jump Break h = tt
    of-jump (Return value) h = of-maybe plain value none (d.back (d.front h)) tt

    of-maybe : (slot : Slot) (m : MaybeNode) (rest : Parts) → R (maybe_line m) → InParts Has rest → InParts Has (maybe slot m rest)
    of-maybe slot absent rest h k = k
    of-maybe slot (present e) rest h k = (of-node e h, k)

    pub of-row : (slot : Slot) (es : Nodes) (rest : Parts) → R (row_line es) → InParts Has rest → InParts Has (each slot es rest)
    of-row slot no_more rest h k = k
    of-row slot (more e es) rest h k = (of-node e (d.front h), of-row slot es rest (d.back h) k)

    of-list : (slot : Slot) (es : Nodes) (rest : Parts) → R (list_line es) → InParts Has rest → InParts Has (each slot es rest)
    of-list slot no_more rest h k = k
    of-list slot (more e es) rest h k = (of-node e (d.front h), of-others slot es rest (d.back h) k)

    of-others : (slot : Slot) (es : Nodes) (rest : Parts) → R (more_line es) → InParts Has rest → InParts Has (each slot es rest)
    of-others slot no_more rest h k = k
    of-others slot (more e es) rest h k = (of-node e (d.back (d.front h)), of-others slot es rest (d.back h) k)
