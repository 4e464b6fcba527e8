-- The holes of a pattern are those names in it that have numbers.
use Rattle.std.proofs.Common.{◌≡◌, ℕ, Bool, true, false, ◌&&◌, List, [], ◌∷◌, ◌++◌, filter_map, Option, None, Some, ap, refl, ◌∙◌, sym}
use Rattle.std.proofs.lemmas.List.Elements.{filter_map-append}
use Rattle.c_tree.specs.Symbol.{Word, Reserved, Sign, IntLiteral, FloatLiteral, CharLiteral, StringLiteral}
use Rattle.c_tree.specs.Syntax.{Syntax, Primary, Operation, Initializer, Specifier, Declarator, Part, Outer, Statement, Iteration, Jump, PrimarySyntax, OperationSyntax, InitializerSyntax, Ident, Constant, StrConst, Paren, VaArg, Offsetof, Hole, Index, Call, Member, Arrow, CompoundLit, Unary, SizeofType, Cast, Binary, Cond, Assign, Init, Braces, Designated, SpecWord, ArrayBound, VoidParams, Params, Enumerator, MemberDesignator, IndexDesignator, Syntaxes, no_more, more}
use Rattle.metal_tree.specs.MetalMachines.Numbers.{holes_in, holes_in_primary, holes_in_operation, holes_in_initializer, holes_in_all, holes_in_path, holes_in_designator}
use Rattle.metal_grammar.specs.Patterns.{hole_or, with_holes, primary_with_holes, operation_with_holes, initializer_with_holes, all_with_holes, path_with_holes, designator_with_holes, names_in, names_in_primary, names_in_operation, names_in_initializer, names_in_all, names_in_path, names_in_designator, is_plain_type, has_plain_types, primary_has_plain_types, operation_has_plain_types, initializer_has_plain_types, all_have_plain_types, path_has_plain_types, designator_has_plain_types}

pub both : (a b : Bool) → (a && b) ≡ true → (a ≡ true) × (b ≡ true)
both true b h = (refl, h)
both false b h = cc

-- two parts side by side
beside : (f : ℕ → Option ℕ) (us vs xs ys : List ℕ) → us ≡ filter_map f xs → vs ≡ filter_map f ys → (us ++ vs) ≡ filter_map f (xs ++ ys)
beside f us vs xs ys p q = ap (λ l. l ++ vs) p ∙ ap (λ l. filter_map f xs ++ l) q ∙ sym (filter_map-append f xs ys)

named : (f : ℕ → Option ℕ) (name : ℕ) (o : Option ℕ) → f name ≡ o → holes_in_primary (hole_or (Ident (Word name)) o) ≡ filter_map f (name ∷ [])
named f name None e = rw e refl
named f name (Some n) e = rw e refl

mutual
  pub holes_numbered : (f : ℕ → Option ℕ) (e : Syntax) → has_plain_types e ≡ true → holes_in (with_holes f e) ≡ filter_map f (names_in e)
  holes_numbered f (Primary k) h = primary_numbered f k h
  holes_numbered f (Operation k) h = operation_numbered f k h
  holes_numbered f (Initializer k) h = initializer_numbered f k h
  holes_numbered f (Specifier k) h = refl
  holes_numbered f (Declarator k) h = refl
  holes_numbered f (Part k) h = refl
  holes_numbered f (Outer k) h = refl
  holes_numbered f (Statement k) h = refl
  holes_numbered f (Iteration k) h = refl
  holes_numbered f (Jump k) h = refl

  primary_numbered : (f : ℕ → Option ℕ) (k : PrimarySyntax) → primary_has_plain_types k ≡ true → holes_in_primary (primary_with_holes f k) ≡ filter_map f (names_in_primary k)
  primary_numbered f (Ident (Word name)) h = named f name (f name) refl
  primary_numbered f (Ident (Reserved k)) h = refl
  primary_numbered f (Ident (Sign p)) h = refl
  primary_numbered f (Ident (IntLiteral value name)) h = refl
  primary_numbered f (Ident (FloatLiteral a b)) h = refl
  primary_numbered f (Ident (CharLiteral a b)) h = refl
  primary_numbered f (Ident (StringLiteral a b)) h = refl
  primary_numbered f (Constant t) h = refl
  primary_numbered f (StrConst ts) h = refl
  primary_numbered f (Paren inner) h = holes_numbered f inner h
  primary_numbered f (VaArg list of) h = let b = both (has_plain_types list) (is_plain_type of) h in holes_numbered f list b.0
  primary_numbered f (Offsetof of member path) h = let b = both (is_plain_type of) (path_has_plain_types path) h in path_numbered f path b.1
  primary_numbered f (Hole n) h = cc

  operation_numbered : (f : ℕ → Option ℕ) (k : OperationSyntax) → operation_has_plain_types k ≡ true → holes_in_operation (operation_with_holes f k) ≡ filter_map f (names_in_operation k)
  operation_numbered f (Index array index) h =
      let b = both (has_plain_types array) (has_plain_types index) h in
      beside f _ _ (names_in array) (names_in index) (holes_numbered f array b.0) (holes_numbered f index b.1)
  operation_numbered f (Call callee arguments) h =
      let b = both (has_plain_types callee) (all_have_plain_types arguments) h in
      beside f _ _ (names_in callee) (names_in_all arguments) (holes_numbered f callee b.0) (all_numbered f arguments b.1)
  operation_numbered f (Member operand member) h = holes_numbered f operand h
  operation_numbered f (Arrow operand member) h = holes_numbered f operand h
  operation_numbered f (CompoundLit of braces) h = let b = both (is_plain_type of) (has_plain_types braces) h in holes_numbered f braces b.1
  operation_numbered f (Unary op operand) h = holes_numbered f operand h
  operation_numbered f (SizeofType of) h = refl
  operation_numbered f (Cast to operand) h = let b = both (is_plain_type to) (has_plain_types operand) h in holes_numbered f operand b.1
  operation_numbered f (Binary op left right) h =
      let b = both (has_plain_types left) (has_plain_types right) h in
      beside f _ _ (names_in left) (names_in right) (holes_numbered f left b.0) (holes_numbered f right b.1)
  operation_numbered f (Cond condition then otherwise) h =
      let a = both (has_plain_types condition && has_plain_types then) (has_plain_types otherwise) h in
      let b = both (has_plain_types condition) (has_plain_types then) a.0 in
      beside f _ _ (names_in condition ++ names_in then) (names_in otherwise)
      (beside f _ _ (names_in condition) (names_in then) (holes_numbered f condition b.0) (holes_numbered f then b.1)) (holes_numbered f otherwise a.1)
  operation_numbered f (Assign op left right) h =
      let b = both (has_plain_types left) (has_plain_types right) h in
      beside f _ _ (names_in left) (names_in right) (holes_numbered f left b.0) (holes_numbered f right b.1)

  initializer_numbered : (f : ℕ → Option ℕ) (k : InitializerSyntax) → initializer_has_plain_types k ≡ true → holes_in_initializer (initializer_with_holes f k) ≡ filter_map f (names_in_initializer k)
  initializer_numbered f (Init a b c) h = refl
  initializer_numbered f (Braces elements comma) h = all_numbered f elements h
  initializer_numbered f (Designated designators initial) h =
      let b = both (path_has_plain_types designators) (has_plain_types initial) h in
      beside f _ _ (names_in_path designators) (names_in initial) (path_numbered f designators b.0) (holes_numbered f initial b.1)

  all_numbered : (f : ℕ → Option ℕ) (es : Syntaxes) → all_have_plain_types es ≡ true → holes_in_all (all_with_holes f es) ≡ filter_map f (names_in_all es)
  all_numbered f no_more h = refl
  all_numbered f (more e es) h =
      let b = both (has_plain_types e) (all_have_plain_types es) h in
      beside f _ _ (names_in e) (names_in_all es) (holes_numbered f e b.0) (all_numbered f es b.1)

  path_numbered : (f : ℕ → Option ℕ) (es : Syntaxes) → path_has_plain_types es ≡ true → holes_in_path (path_with_holes f es) ≡ filter_map f (names_in_path es)
  path_numbered f no_more h = refl
  path_numbered f (more e es) h =
      let b = both (designator_has_plain_types e) (path_has_plain_types es) h in
      beside f _ _ (names_in_designator e) (names_in_path es) (designator_numbered f e b.0) (path_numbered f es b.1)

  designator_numbered : (f : ℕ → Option ℕ) (e : Syntax) → designator_has_plain_types e ≡ true → holes_in_designator (designator_with_holes f e) ≡ filter_map f (names_in_designator e)
  designator_numbered f (Part (SpecWord a)) h = refl
  designator_numbered f (Part (ArrayBound a b)) h = refl
  designator_numbered f (Part VoidParams) h = refl
  designator_numbered f (Part (Params a b)) h = refl
  designator_numbered f (Part (Enumerator a b)) h = refl
  designator_numbered f (Part (MemberDesignator a)) h = refl
  designator_numbered f (Part (IndexDesignator index)) h = holes_numbered f index h
  designator_numbered f (Primary k) h = refl
  designator_numbered f (Operation k) h = refl
  designator_numbered f (Initializer k) h = refl
  designator_numbered f (Specifier k) h = refl
  designator_numbered f (Declarator k) h = refl
  designator_numbered f (Outer k) h = refl
  designator_numbered f (Statement k) h = refl
  designator_numbered f (Iteration k) h = refl
  designator_numbered f (Jump k) h = refl
