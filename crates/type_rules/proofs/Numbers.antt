-- The nodes of trees that stand over tokens have different numbers.
use Rattle.std.proofs.Common.{◌≡◌, ◌≤◌, ℕ, ◌+◌, Bool, true, false, List, Option, None, Some, ◌⊎◌, inl, inr, refl, subst, sym, arith}
use Rattle.c_tree.specs.declared.operator.UnaryOp.{UnaryOp}
use Rattle.c_tree.specs.declared.operator.UnaryOp.TheVariants as unary
use Rattle.c_tree.specs.declared.place.Place.{Place}
use Rattle.c_tree.specs.declared.token.Token.{Token}
use Rattle.c_tree.specs.Node.{Node, node, Shape, Primary, Operation, Initializer, Specifier, Declarator, Part, Outer, Statement, Iteration, Jump, PrimaryShape, OperationShape, InitializerShape, SpecifierShape, DeclaratorShape, PartShape, OuterShape, StatementShape, IterationShape, JumpShape, Ident, Constant, StrConst, Paren, VaArg, Offsetof, Hole, Index, Call, Member, Arrow, CompoundLit, Unary, SizeofType, Cast, Binary, Cond, Assign, Init, Braces, Designated, TypeName, Specs, StructTag, StructBody, EnumTag, EnumBody, StructDeclaration, BitField, Param, Named, Nested, Unnamed, SpecWord, ArrayBound, VoidParams, Params, Enumerator, MemberDesignator, IndexDesignator, Declaration, Function, Empty, Block, ExprStmt, If, Switch, Case, Default, Label, While, Do, For, ForDeclaration, Goto, Continue, Break, Return, MaybeNode, absent, present, Nodes, no_more, more}
use Rattle.c_grammar.specs.CPlaces.Lines.{Line, nothing, kept, all_kept, fixed, at, numbered, ◌⨾◌, line_of, shape_line, primary_line, operation_line, initializer_line, specifier_line, declarator_line, part_line, outer_line, statement_line, iteration_line, jump_line, unary_line, comma_if, ellipsis_if, tag_if, names, maybe_line, assigned_line, else_line, row_line, list_line, more_line}
use Rattle.c_grammar.specs.CPlaces.Stands.{Stands, OfNothing, OfKept, OfAll, OfFixed, OfPlace, OfNumber, OfName, OfBoth}
use Rattle.type_rules.specs.Parts.{Slot, plain, same, item_of, declared_by, formal_by, member_by, beside_name, beside, inside, Visit, visit, Parts, none, part, flat, parts, primary_parts, operation_parts, initializer_parts, specifier_parts, declarator_parts, part_parts, outer_parts, statement_parts, iteration_parts, jump_parts, maybe, each, first_in}
use Rattle.type_rules.specs.Unit.{IsIn, IsInSome, Differ, DifferAll, AreNumbered}

-- What holds of the number where parts end, if they begin at `low`: in each part the numbers go up in the order in which nodes
-- end.
abbrev mutual
  Climbs : ℕ → Visit → ℕ → Type 0
  Climbs low (visit i p s es) high = ClimbThen low es (λ m. m ≤ i) × (high ≡ i + 1)

  ClimbThen : ℕ → Parts → (ℕ → Type 0) → Type 0
  ClimbThen low none K = K low
  ClimbThen low (part slot e es) K = (middle : ℕ) × Climbs low e middle × ClimbThen middle es K

-- The same of a line: only its nodes count.
abbrev Then : Line → ℕ → (ℕ → Type 0) → Type 0
Then nothing low K = K low
Then (kept t) low K = K low
Then (all_kept ts) low K = K low
Then (fixed s) low K = K low
Then (at p) low K = K low
Then (numbered i) low K = (low ≤ i) × K (i + 1)
Then (names t n) low K = (middle : ℕ) × Climbs low (flat n) middle × K middle
Then (l ⨾ m) low K = Then l low (λ middle. Then m middle K)

over : (l : Line) (low high : ℕ) (ts rest : List Token) (K : ℕ → Type 0) → Stands l low high ts rest → K high → Then l low K
over nothing low high ts rest K OfNothing k = k
over (kept t) low high ts rest K OfKept k = k
over (all_kept us) low high ts rest K OfAll k = k
over (fixed s) low high ts rest K (OfFixed e) k = k
over (at p) low high ts rest K OfPlace k = k
over (numbered i) low high ts rest K OfNumber k = (omega arith, k)
over (names t n) low high ts rest K OfName k = (low + 1, (omega arith, refl), k)
over (l ⨾ m) low high ts rest K (OfBoth {middle = middle} {us = us} h j) k = over l low middle ts us (λ n. Then m n K) h (over m middle high us rest K j k)

record Apart (low : ℕ) (e : Visit) (high : ℕ) : Type 0 where
  differ : Differ e
  within : (j : ℕ) → IsIn j e → (low ≤ j) × (j + 1 ≤ high)
  up : low ≤ high

record AllApart (low : ℕ) (es : Parts) (high : ℕ) : Type 0 where
  differ : DifferAll es
  within : (j : ℕ) → IsInSome j es → (low ≤ j) × (j + 1 ≤ high)
  up : low ≤ high

below : (low middle i j : ℕ) → low ≤ middle → middle ≤ i → j ≡ i → (low ≤ j) × (j + 1 ≤ i + 1)
below low middle i j h k refl = (omega arith, omega arith)

not-below : (low middle i : ℕ) → middle ≤ i → (low ≤ i) × (i + 1 ≤ middle) → ⊥
not-below low middle i h k = omega arith

between : (low middle high j : ℕ) → middle ≤ high → (low ≤ j) × (j + 1 ≤ middle) → (low ≤ j) × (j + 1 ≤ high)
between low middle high j h k = (k.0, omega arith)

beyond : (low middle high j : ℕ) → low ≤ middle → (middle ≤ j) × (j + 1 ≤ high) → (low ≤ j) × (j + 1 ≤ high)
beyond low middle high j h k = (omega arith, k.1)

not-both : (low middle high j : ℕ) → (low ≤ j) × (j + 1 ≤ middle) → (middle ≤ j) × (j + 1 ≤ high) → ⊥
not-both low middle high j h k = omega arith

in-node : (low middle i : ℕ) (es : Parts) → middle ≤ i → AllApart low es middle → (j : ℕ) → (j ≡ i) ⊎ IsInSome j es → (low ≤ j) × (j + 1 ≤ i + 1)
in-node low middle i es k a j (inl e) = below low middle i j a.up k e
in-node low middle i es k a j (inr m) = between low middle (i + 1) j (omega arith) (a.within j m)

in-parts : (low middle high : ℕ) (e : Visit) (es : Parts) → Apart low e middle → AllApart middle es high → (j : ℕ) → IsIn j e ⊎ IsInSome j es → (low ≤ j) × (j + 1 ≤ high)
in-parts low middle high e es a b j (inl m) = between low middle high j b.up (a.within j m)
in-parts low middle high e es a b j (inr m) = beyond low middle high j a.up (b.within j m)

around : (low middle i : ℕ) (p : Place) (s : Shape) (es : Parts) → middle ≤ i → AllApart low es middle → Apart low (visit i p s es) (i + 1)
around low middle i p s es k a = record {
  differ = (λ m. not-below low middle i k (a.within i m), a.differ);
  within = in-node low middle i es k a;
  up = let u = a.up in omega arith;
}

joined : (low middle high : ℕ) (slot : Slot) (e : Visit) (es : Parts) → Apart low e middle → AllApart middle es high → AllApart low (part slot e es) high
joined low middle high slot e es a b = record {
  differ = (a.differ, λ j m k. not-both low middle high j (a.within j m) (b.within j k), b.differ);
  within = in-parts low middle high e es a b;
  up = let u = a.up in let w = b.up in omega arith;
}

mutual
  apart : (low : ℕ) (e : Visit) (high : ℕ) → Climbs low e high → Apart low e high
  apart low (visit i p s es) high c = let x = all-apart low es i c.0 in subst (λ n. Apart low (visit i p s es) n) (sym c.1) (around low x.0 i p s es x.2 x.1)

  all-apart : (low : ℕ) (es : Parts) (last : ℕ) → ClimbThen low es (λ m. m ≤ last) → (high : ℕ) × AllApart low es high × (high ≤ last)
  all-apart low none last c = (low, record { differ = _; within = λ j m. absurd m; up = omega arith }, c)
  all-apart low (part slot e es) last c = let x = all-apart c.0 es last c.2 in (x.0, joined low c.0 x.0 slot e es (apart low e c.0 c.1) x.1, x.2)

-- what holds of no number is taken out
aside : (es : Parts) (low : ℕ) (K : ℕ → Type 0) (Q : Type 0) → ClimbThen low es (λ m. K m × Q) → ClimbThen low es K × Q
aside none low K Q c = c
aside (part slot e es) low K Q c = let x = aside es c.0 K Q c.2 in ((c.0, c.1, x.0), x.1)

no-comma : (b : Bool) (low : ℕ) (K : ℕ → Type 0) → Then (comma_if b) low K → K low
no-comma true low K h = h
no-comma false low K h = h

no-ellipsis : (b : Bool) (low : ℕ) (K : ℕ → Type 0) → Then (ellipsis_if b) low K → K low
no-ellipsis true low K h = h
no-ellipsis false low K h = h

no-tag : (t : Option Token) (low : ℕ) (K : ℕ → Type 0) → Then (tag_if t) low K → K low
no-tag (Some t) low K h = h
no-tag None low K h = h

an-operand : (op : UnaryOp) (l : Line) (low : ℕ) (K : ℕ → Type 0) → Then (unary_line op l) low K → Then l low K
an-operand unary.PostInc l low K h = h
an-operand unary.PostDec l low K h = h
an-operand unary.PreInc l low K h = h
an-operand unary.PreDec l low K h = h
an-operand unary.AddressOf l low K h = h
an-operand unary.Deref l low K h = h
an-operand unary.Plus l low K h = h
an-operand unary.Minus l low K h = h
an-operand unary.BitNot l low K h = h
an-operand unary.Not l low K h = h
an-operand unary.Sizeof l low K h = h

mutual
  climbs : (n : Node) (low : ℕ) (K : ℕ → Type 0) → Then (line_of n) low K → (middle : ℕ) × Climbs low (flat n) middle × K middle
  climbs (node i p s) low K h = let x = aside (parts s) low (λ m. m ≤ i) (K (i + 1)) (shape s low (λ m. (m ≤ i) × K (i + 1)) h) in (i + 1, (x.0, refl), x.1)

  shape : (s : Shape) (low : ℕ) (K : ℕ → Type 0) → Then (shape_line s) low K → ClimbThen low (parts s) K
  shape (Primary k) low K h = primary k low K h
  shape (Operation k) low K h = operation k low K h
  shape (Initializer k) low K h = initializer k low K h
  shape (Specifier k) low K h = specifier k low K h
  shape (Declarator k) low K h = a-declarator k low K h
  shape (Part k) low K h = a-part k low K h
  shape (Outer k) low K h = outer k low K h
  shape (Statement k) low K h = statement k low K h
  shape (Iteration k) low K h = iteration k low K h
  shape (Jump k) low K h = jump k low K h

  primary : (k : PrimaryShape) (low : ℕ) (K : ℕ → Type 0) → Then (primary_line k) low K → ClimbThen low (primary_parts k) K
  primary (Ident name) low K h = h
  primary (Constant token) low K h = h
  primary (StrConst literals) low K h = h
  primary (Paren inner) low K h = climbs inner low K h
  primary (VaArg list of) low K h = let x = climbs list low _ h in (x.0, x.1, climbs of x.0 K x.2)
  primary (Offsetof of member path) low K h = let x = climbs of low _ h in (x.0, x.1, a-row plain path none x.0 K K (λ m k. k) x.2)
  primary (Hole number) low K h = h

  operation : (k : OperationShape) (low : ℕ) (K : ℕ → Type 0) → Then (operation_line k) low K → ClimbThen low (operation_parts k) K
  operation (Index array index) low K h = let x = climbs array low _ h in (x.0, x.1, climbs index x.0 K x.2)
  operation (Call function paren arguments) low K h = let x = climbs function low _ h in (x.0, x.1, a-list plain arguments none x.0 K K (λ m k. k) x.2)
  operation (Member operand name) low K h = climbs operand low K h
  operation (Arrow operand name) low K h = climbs operand low K h
  operation (CompoundLit of braces) low K h = let x = climbs of low _ h in (x.0, x.1, climbs braces x.0 K x.2)
  operation (Unary op operand) low K h = climbs operand low K (an-operand op (line_of operand) low K h)
  operation (SizeofType of) low K h = climbs of low K h
  operation (Cast to operand) low K h = let x = climbs to low _ h in (x.0, x.1, climbs operand x.0 K x.2)
  operation (Binary op left right) low K h = let x = climbs left low _ h in (x.0, x.1, climbs right x.0 K x.2)
  operation (Cond condition then otherwise) low K h = let x = climbs condition low _ h in (x.0, x.1, let y = climbs then x.0 _ x.2 in (y.0, y.1, climbs otherwise y.0 K y.2))
  operation (Assign op left right) low K h = let x = climbs left low _ h in (x.0, x.1, climbs right x.0 K x.2)

  initializer : (k : InitializerShape) (low : ℕ) (K : ℕ → Type 0) → Then (initializer_line k) low K → ClimbThen low (initializer_parts k) K
  initializer (Init name declarator initial) low K h = let x = climbs declarator low _ h in (x.0, x.1, (x.2.0, x.2.1, climbs initial x.2.0 K x.2.2))
  initializer (Braces elements comma) low K h = a-list plain elements none low (λ m. Then (comma_if comma) m K) K (λ m k. no-comma comma m K k) h
  initializer (Designated designators initial) low K h = a-row plain designators (part plain (flat initial) none) low (λ m. Then (line_of initial) m K) K (λ m k. climbs initial m K k) h

  specifier : (k : SpecifierShape) (low : ℕ) (K : ℕ → Type 0) → Then (specifier_line k) low K → ClimbThen low (specifier_parts k) K
  specifier (TypeName specs declarator) low K h = let x = climbs specs low _ h in (x.0, x.1, a-maybe plain declarator none x.0 K K (λ m k. k) x.2)
  specifier (Specs items) low K h = a-row (item_of items) items none low K K (λ m k. k) h
  specifier (StructTag which tag) low K h = h
  specifier (StructBody which tag members) low K h = a-row (inside which tag) members none low K K (λ m k. k) (no-tag tag low (λ m. Then (row_line members) m K) h)
  specifier (EnumTag tag) low K h = h
  specifier (EnumBody tag enumerators comma) low K h = a-list plain enumerators none low (λ m. Then (comma_if comma) m K) K (λ m k. no-comma comma m K k) (no-tag tag low (λ m. Then (list_line enumerators) m (λ n. Then (comma_if comma) n K)) h)
  specifier (StructDeclaration specs declarators) low K h = let x = climbs specs low _ h in (x.0, x.1, a-list (member_by specs) declarators none x.0 K K (λ m k. k) x.2)
  specifier (BitField declarator width) low K h = a-maybe same declarator (part plain (flat width) none) low (λ m. Then (line_of width) m K) K (λ m k. climbs width m K k) h
  specifier (Param specs declarator) low K h = let x = climbs specs low _ h in (x.0, x.1, a-maybe (formal_by specs) declarator none x.0 K K (λ m k. k) x.2)

  a-declarator : (k : DeclaratorShape) (low : ℕ) (K : ℕ → Type 0) → Then (declarator_line k) low K → ClimbThen low (declarator_parts k) K
  a-declarator (Named pointers name suffixes) low K h = suffixes-in beside_name suffixes low K h
  a-declarator (Nested pointers inner suffixes) low K h = let x = climbs inner low _ h in (x.0, x.1, suffixes-in (beside inner) suffixes x.0 K x.2)
  a-declarator (Unnamed pointers suffixes) low K h = a-row plain suffixes none low K K (λ m k. k) h

  suffixes-in : (slot : Slot) (es : Nodes) (low : ℕ) (K : ℕ → Type 0) → Then (row_line es) low K → ClimbThen low (first_in slot es) K
  suffixes-in slot no_more low K h = h
  suffixes-in slot (more e es) low K h = let x = climbs e low _ h in (x.0, x.1, a-row plain es none x.0 K K (λ m k. k) x.2)

  a-part : (k : PartShape) (low : ℕ) (K : ℕ → Type 0) → Then (part_line k) low K → ClimbThen low (part_parts k) K
  a-part (SpecWord word) low K h = h
  a-part (ArrayBound words bound) low K h = a-maybe plain bound none low K K (λ m k. k) h
  a-part VoidParams low K h = h
  a-part (Params params variadic) low K h = a-list plain params none low (λ m. Then (ellipsis_if variadic) m K) K (λ m k. no-ellipsis variadic m K k) h
  a-part (Enumerator name value) low K h = a-value value low K h
  a-part (MemberDesignator member) low K h = h
  a-part (IndexDesignator index) low K h = climbs index low K h

  a-value : (m : MaybeNode) (low : ℕ) (K : ℕ → Type 0) → Then (assigned_line m) low K → ClimbThen low (maybe plain m none) K
  a-value absent low K h = h
  a-value (present e) low K h = climbs e low K h

  outer : (k : OuterShape) (low : ℕ) (K : ℕ → Type 0) → Then (outer_line k) low K → ClimbThen low (outer_parts k) K
  outer (Declaration specs declarators) low K h = let x = climbs specs low _ h in (x.0, x.1, a-list (declared_by specs) declarators none x.0 K K (λ m k. k) x.2)
  outer (Function specs declarator block) low K h = let x = climbs specs low _ h in (x.0, x.1, let y = climbs declarator x.0 _ x.2 in (y.0, y.1, climbs block y.0 K y.2))
  outer Empty low K h = h

  statement : (k : StatementShape) (low : ℕ) (K : ℕ → Type 0) → Then (statement_line k) low K → ClimbThen low (statement_parts k) K
  statement (Block items) low K h = a-row plain items none low K K (λ m k. k) h
  statement (ExprStmt value) low K h = a-maybe plain value none low K K (λ m k. k) h
  statement (If condition then otherwise) low K h = let x = climbs condition low _ h in (x.0, x.1, (let y = climbs then x.0 _ x.2 in (y.0, y.1, an-else otherwise y.0 K y.2)))
  statement (Switch value inner) low K h = let x = climbs value low _ h in (x.0, x.1, climbs inner x.0 K x.2)
  statement (Case value inner) low K h = let x = climbs value low _ h in (x.0, x.1, climbs inner x.0 K x.2)
  statement (Default inner) low K h = climbs inner low K h
  statement (Label label inner) low K h = climbs inner low K h

  an-else : (m : MaybeNode) (low : ℕ) (K : ℕ → Type 0) → Then (else_line m) low K → ClimbThen low (maybe plain m none) K
  an-else absent low K h = h
  an-else (present e) low K h = climbs e low K h

  iteration : (k : IterationShape) (low : ℕ) (K : ℕ → Type 0) → Then (iteration_line k) low K → ClimbThen low (iteration_parts k) K
  iteration (While condition inner) low K h = let x = climbs condition low _ h in (x.0, x.1, climbs inner x.0 K x.2)
  iteration (Do inner condition) low K h = let x = climbs inner low _ h in (x.0, x.1, climbs condition x.0 K x.2)
  iteration (For first condition step inner) low K h = a-maybe plain first (maybe plain condition (maybe plain step (part plain (flat inner) none))) low (λ m. Then (maybe_line condition) m (λ n. Then (maybe_line step) n (λ o. Then (line_of inner) o K))) K (λ l g. a-maybe plain condition (maybe plain step (part plain (flat inner) none)) l (λ m. Then (maybe_line step) m (λ n. Then (line_of inner) n K)) K (λ m k. a-maybe plain step (part plain (flat inner) none) m (λ n. Then (line_of inner) n K) K (λ n j. climbs inner n K j) k) g) h
  iteration (ForDeclaration declaration condition step inner) low K h = let x = climbs declaration low _ h in (x.0, x.1, a-maybe plain condition (maybe plain step (part plain (flat inner) none)) x.0 (λ m. Then (maybe_line step) m (λ n. Then (line_of inner) n K)) K (λ m k. a-maybe plain step (part plain (flat inner) none) m (λ n. Then (line_of inner) n K) K (λ n j. climbs inner n K j) k) x.2)

  jump : (k : JumpShape) (low : ℕ) (K : ℕ → Type 0) → Then (jump_line k) low K → ClimbThen low (jump_parts k) K
  jump (Goto label) low K h = h
  jump Continue low K h = h
  jump Break low K h = h
  jump (Return value) low K h = a-maybe plain value none low K K (λ m k. k) h

  a-maybe : (slot : Slot) (m : MaybeNode) (tail : Parts) (low : ℕ) (G K : ℕ → Type 0) → ((middle : ℕ) → G middle → ClimbThen middle tail K) → Then (maybe_line m) low G → ClimbThen low (maybe slot m tail) K
  a-maybe slot absent tail low G K f h = f low h
  a-maybe slot (present e) tail low G K f h = let x = climbs e low G h in (x.0, x.1, f x.0 x.2)

  a-row : (slot : Slot) (es : Nodes) (tail : Parts) (low : ℕ) (G K : ℕ → Type 0) → ((middle : ℕ) → G middle → ClimbThen middle tail K) → Then (row_line es) low G → ClimbThen low (each slot es tail) K
  a-row slot no_more tail low G K f h = f low h
  a-row slot (more e es) tail low G K f h = let x = climbs e low (λ m. Then (row_line es) m G) h in (x.0, x.1, a-row slot es tail x.0 G K f x.2)

  a-list : (slot : Slot) (es : Nodes) (tail : Parts) (low : ℕ) (G K : ℕ → Type 0) → ((middle : ℕ) → G middle → ClimbThen middle tail K) → Then (list_line es) low G → ClimbThen low (each slot es tail) K
  a-list slot no_more tail low G K f h = f low h
  a-list slot (more e es) tail low G K f h = let x = climbs e low (λ m. Then (more_line es) m G) h in (x.0, x.1, others slot es tail x.0 G K f x.2)

  others : (slot : Slot) (es : Nodes) (tail : Parts) (low : ℕ) (G K : ℕ → Type 0) → ((middle : ℕ) → G middle → ClimbThen middle tail K) → Then (more_line es) low G → ClimbThen low (each slot es tail) K
  others slot no_more tail low G K f h = f low h
  others slot (more e es) tail low G K f h = let x = climbs e low (λ m. Then (more_line es) m G) h in (x.0, x.1, others slot es tail x.0 G K f x.2)

-- the trees of a unit, one after the other
pub numbered-apart : (unit : Nodes) (low high : ℕ) (ts rest : List Token) → Stands (row_line unit) low high ts rest → AreNumbered unit
numbered-apart unit low high ts rest h = (all-apart low (each plain unit none) high (a-row plain unit none low (λ n. n ≤ high) (λ n. n ≤ high) (λ m k. k) (over (row_line unit) low high ts rest (λ n. n ≤ high) h (omega arith)))).1.differ
