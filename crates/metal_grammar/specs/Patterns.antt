-- Patterns: expressions of C in which names that are declared as holes stand for what they take.
use Rattle.std.specs.Prelude.{ℕ, Bool, true, false, ◌&&◌, List, [], ◌∷◌, ◌++◌, Option, None, Some}
use Rattle.c_tree.specs.declared.punctuator.Punctuator.TheVariants as marks
use Rattle.c_tree.specs.Symbol.{Symbol, Word, Reserved}
use Rattle.c_tree.specs.Syntax.{Syntax, Primary, Operation, Initializer, Specifier, Declarator, Part, PrimarySyntax, OperationSyntax, InitializerSyntax, Ident, Paren, VaArg, Offsetof, Hole, Index, Call, Member, Arrow, CompoundLit, Unary, SizeofType, Cast, Binary, Cond, Assign, Braces, Designated, TypeName, Specs, StructTag, Unnamed, SpecWord, IndexDesignator, MaybeSyntax, absent, present, Syntaxes, no_more, more}
use Rattle.c_grammar.specs.Symbols.{is_sign}
use Rattle.c_grammar.specs.Specifiers.{is_type_word}

-- the symbol of a name that is declared as a hole becomes that hole; `number` says which it is
abbrev pub hole_or : PrimarySyntax → Option ℕ → PrimarySyntax
hole_or k None = k
hole_or k (Some n) = Hole n

abbrev pub name_as_hole : (ℕ → Option ℕ) → Symbol → PrimarySyntax
name_as_hole number (Word name) = hole_or (Ident (Word name)) (number name)
name_as_hole number t = Ident t

-- the expression with its holes
abbrev mutual
  pub with_holes : (ℕ → Option ℕ) → Syntax → Syntax
  with_holes number (Primary k) = Primary (primary_with_holes number k)
  with_holes number (Operation k) = Operation (operation_with_holes number k)
  with_holes number (Initializer k) = Initializer (initializer_with_holes number k)
  with_holes number e = e

  pub primary_with_holes : (ℕ → Option ℕ) → PrimarySyntax → PrimarySyntax
  primary_with_holes number (Ident name) = name_as_hole number name
  primary_with_holes number (Paren inner) = Paren (with_holes number inner)
  primary_with_holes number (VaArg list of) = VaArg (with_holes number list) of
  primary_with_holes number (Offsetof of member path) = Offsetof of member (path_with_holes number path)
  primary_with_holes number k = k

  pub operation_with_holes : (ℕ → Option ℕ) → OperationSyntax → OperationSyntax
  operation_with_holes number (Index array index) = Index (with_holes number array) (with_holes number index)
  operation_with_holes number (Call callee arguments) = Call (with_holes number callee) (all_with_holes number arguments)
  operation_with_holes number (Member operand member) = Member (with_holes number operand) member
  operation_with_holes number (Arrow operand member) = Arrow (with_holes number operand) member
  operation_with_holes number (CompoundLit of braces) = CompoundLit of (with_holes number braces)
  operation_with_holes number (Unary op operand) = Unary op (with_holes number operand)
  operation_with_holes number (Cast to operand) = Cast to (with_holes number operand)
  operation_with_holes number (Binary op left right) = Binary op (with_holes number left) (with_holes number right)
  operation_with_holes number (Cond condition then otherwise) = Cond (with_holes number condition) (with_holes number then) (with_holes number otherwise)
  operation_with_holes number (Assign op left right) = Assign op (with_holes number left) (with_holes number right)
  operation_with_holes number k = k

  pub initializer_with_holes : (ℕ → Option ℕ) → InitializerSyntax → InitializerSyntax
  initializer_with_holes number (Braces elements comma) = Braces (all_with_holes number elements) comma
  initializer_with_holes number (Designated designators initial) = Designated (path_with_holes number designators) (with_holes number initial)
  initializer_with_holes number k = k

  pub all_with_holes : (ℕ → Option ℕ) → Syntaxes → Syntaxes
  all_with_holes number no_more = no_more
  all_with_holes number (more e es) = more (with_holes number e) (all_with_holes number es)

  pub path_with_holes : (ℕ → Option ℕ) → Syntaxes → Syntaxes
  path_with_holes number no_more = no_more
  path_with_holes number (more e es) = more (designator_with_holes number e) (path_with_holes number es)

  pub designator_with_holes : (ℕ → Option ℕ) → Syntax → Syntax
  designator_with_holes number (Part (IndexDesignator index)) = Part (IndexDesignator (with_holes number index))
  designator_with_holes number e = e

abbrev pub name_alone : Symbol → List ℕ
name_alone (Word name) = name ∷ []
name_alone _ = []

-- the names that stand as values or callees in an expression, in the order of the text
abbrev mutual
  pub names_in : Syntax → List ℕ
  names_in (Primary k) = names_in_primary k
  names_in (Operation k) = names_in_operation k
  names_in (Initializer k) = names_in_initializer k
  names_in _ = []

  pub names_in_primary : PrimarySyntax → List ℕ
  names_in_primary (Ident name) = name_alone name
  names_in_primary (Paren inner) = names_in inner
  names_in_primary (VaArg list of) = names_in list
  names_in_primary (Offsetof of member path) = names_in_path path
  names_in_primary _ = []

  pub names_in_operation : OperationSyntax → List ℕ
  names_in_operation (Index array index) = names_in array ++ names_in index
  names_in_operation (Call callee arguments) = names_in callee ++ names_in_all arguments
  names_in_operation (Member operand member) = names_in operand
  names_in_operation (Arrow operand member) = names_in operand
  names_in_operation (CompoundLit of braces) = names_in braces
  names_in_operation (Unary op operand) = names_in operand
  names_in_operation (Cast to operand) = names_in operand
  names_in_operation (Binary op left right) = names_in left ++ names_in right
  names_in_operation (Cond condition then otherwise) = names_in condition ++ names_in then ++ names_in otherwise
  names_in_operation (Assign op left right) = names_in left ++ names_in right
  names_in_operation _ = []

  pub names_in_initializer : InitializerSyntax → List ℕ
  names_in_initializer (Braces elements comma) = names_in_all elements
  names_in_initializer (Designated designators initial) = names_in_path designators ++ names_in initial
  names_in_initializer _ = []

  pub names_in_all : Syntaxes → List ℕ
  names_in_all no_more = []
  names_in_all (more e es) = names_in e ++ names_in_all es

  pub names_in_path : Syntaxes → List ℕ
  names_in_path no_more = []
  names_in_path (more e es) = names_in_designator e ++ names_in_path es

  pub names_in_designator : Syntax → List ℕ
  names_in_designator (Part (IndexDesignator index)) = names_in index
  names_in_designator _ = []

-- A type name in a pattern is one that a hole may have: words of a basic type or a tag, and stars.
abbrev pub is_plain_word : Syntax → Bool
is_plain_word (Part (SpecWord (Reserved k))) = is_type_word k
is_plain_word (Specifier (StructTag which tag)) = true
is_plain_word _ = false

abbrev pub are_plain_words : Syntaxes → Bool
are_plain_words no_more = true
are_plain_words (more e es) = is_plain_word e && are_plain_words es

abbrev pub are_stars : List Symbol → Bool
are_stars [] = true
are_stars (t ∷ ts) = is_sign marks.Star t && are_stars ts

abbrev pub is_plain_declarator : MaybeSyntax → Bool
is_plain_declarator absent = true
is_plain_declarator (present (Declarator (Unnamed pointers no_more))) = are_stars pointers
is_plain_declarator _ = false

abbrev pub is_plain_type : Syntax → Bool
is_plain_type (Specifier (TypeName (Specifier (Specs words)) declarator)) = are_plain_words words && is_plain_declarator declarator
is_plain_type _ = false

-- Each type name in an expression is plain, and its holes are still names.
abbrev mutual
  pub has_plain_types : Syntax → Bool
  has_plain_types (Primary k) = primary_has_plain_types k
  has_plain_types (Operation k) = operation_has_plain_types k
  has_plain_types (Initializer k) = initializer_has_plain_types k
  has_plain_types _ = true

  pub primary_has_plain_types : PrimarySyntax → Bool
  primary_has_plain_types (Paren inner) = has_plain_types inner
  primary_has_plain_types (VaArg list of) = has_plain_types list && is_plain_type of
  primary_has_plain_types (Offsetof of member path) = is_plain_type of && path_has_plain_types path
  primary_has_plain_types (Hole number) = false
  primary_has_plain_types _ = true

  pub operation_has_plain_types : OperationSyntax → Bool
  operation_has_plain_types (Index array index) = has_plain_types array && has_plain_types index
  operation_has_plain_types (Call callee arguments) = has_plain_types callee && all_have_plain_types arguments
  operation_has_plain_types (Member operand member) = has_plain_types operand
  operation_has_plain_types (Arrow operand member) = has_plain_types operand
  operation_has_plain_types (CompoundLit of braces) = is_plain_type of && has_plain_types braces
  operation_has_plain_types (Unary op operand) = has_plain_types operand
  operation_has_plain_types (SizeofType of) = is_plain_type of
  operation_has_plain_types (Cast to operand) = is_plain_type to && has_plain_types operand
  operation_has_plain_types (Binary op left right) = has_plain_types left && has_plain_types right
  operation_has_plain_types (Cond condition then otherwise) = has_plain_types condition && has_plain_types then && has_plain_types otherwise
  operation_has_plain_types (Assign op left right) = has_plain_types left && has_plain_types right

  pub initializer_has_plain_types : InitializerSyntax → Bool
  initializer_has_plain_types (Braces elements comma) = all_have_plain_types elements
  initializer_has_plain_types (Designated designators initial) = path_has_plain_types designators && has_plain_types initial
  initializer_has_plain_types _ = true

  pub all_have_plain_types : Syntaxes → Bool
  all_have_plain_types no_more = true
  all_have_plain_types (more e es) = has_plain_types e && all_have_plain_types es

  pub path_has_plain_types : Syntaxes → Bool
  path_has_plain_types no_more = true
  path_has_plain_types (more e es) = designator_has_plain_types e && path_has_plain_types es

  pub designator_has_plain_types : Syntax → Bool
  designator_has_plain_types (Part (IndexDesignator index)) = has_plain_types index
  designator_has_plain_types _ = true
