-- The grammar (ISO 9899:1990, 6.3 to 6.5.5) as a predicate on finished trees, under the names in force. A tree whose kind no
-- line names is no tree of it: no hole, no initializer, and no braced body of a structure, union or enumeration.
use Rattle.std.specs.Prelude.{◌≡◌, ◌<◌, ◌≤◌, Bool, true, false, ◌||◌, List, [], ◌∷◌}
use Rattle.c_tree.specs.declared.keyword.Keyword.TheVariants as words
use Rattle.c_tree.specs.declared.punctuator.Punctuator.TheVariants as marks
use Rattle.c_tree.specs.Symbol.{Symbol, Word, Reserved}
use Rattle.c_tree.specs.Syntax.{Syntax, Primary, Operation, Specifier, Declarator, Part, PrimarySyntax, OperationSyntax, SpecifierSyntax, DeclaratorSyntax, PartSyntax, Ident, Constant, StrConst, Paren, VaArg, Offsetof, Index, Call, Member, Arrow, Unary, SizeofType, Cast, Binary, Cond, Assign, TypeName, Specs, StructTag, EnumTag, Param, Named, Nested, Unnamed, SpecWord, ArrayBound, VoidParams, Params, MemberDesignator, IndexDesignator, MaybeSyntax, absent, present, Syntaxes, no_more, more}
use Rattle.c_tree.specs.Height.{height_of}
use Rattle.c_tree.specs.Tokens.{tokens_of}
use Rattle.c_grammar.specs.Symbols.{is_sign, is_word, is_string, is_constant, AreAll}
use Rattle.c_grammar.specs.Levels.{postfix_level, unary_level, cast_level, logical_or_level, conditional_level, assignment_level, level_of, operand_level, grade}
use Rattle.c_grammar.specs.Names.{Names, is_type, with_param}
use Rattle.c_grammar.specs.Specifiers.{Place, InTypeName, InParam, is_qualifier, is_specifier, types, fit}
use Rattle.c_grammar.specs.Nonterminal.{Form, Abstract, Either, may_name, may_omit, Nonterminal, Expression, Specifiers, NameOfType, DeclaratorIn, Parameter}

-- a name that is no type here
abbrev pub IsOrdinary : Names → Symbol → Type 0
IsOrdinary names (Word name) = is_type names name ≡ false
IsOrdinary names _ = ⊥

-- one or more string literals (6.1.4)
abbrev pub AreStrings : List Symbol → Type 0
AreStrings [] = ⊥
AreStrings (t ∷ ts) = AreAll is_string (t ∷ ts)

-- Specifiers, where `IsTagged` says which trees begin with `struct`, `union` or `enum`.
abbrev pub IsItem : (Syntax → Type 0) → Names → Bool → Syntax → Type 0
IsItem IsTagged names typed (Part (SpecWord word)) = is_specifier names typed word ≡ true
IsItem IsTagged names typed (Specifier k) = IsTagged (Specifier k)
IsItem IsTagged names typed _ = ⊥

abbrev pub AreItems : (Syntax → Type 0) → Names → Bool → Syntaxes → Type 0
AreItems IsTagged names typed no_more = Unit {0}
AreItems IsTagged names typed (more e es) = IsItem IsTagged names typed e × AreItems IsTagged names (typed || types e) es

abbrev pub AreSpecifiers : (Syntax → Type 0) → Place → Names → Syntax → Type 0
AreSpecifiers IsTagged place names (Specifier (Specs items)) = AreItems IsTagged names false items × (fit place items ≡ true)
AreSpecifiers IsTagged place names _ = ⊥

-- a tag without a body (6.5.2.3)
abbrev pub IsTag : Syntax → Type 0
IsTag (Specifier (StructTag which tag)) = is_word tag ≡ true
IsTag (Specifier (EnumTag tag)) = is_word tag ≡ true
IsTag _ = ⊥

-- `*`, and then more of them and qualifiers, or nothing at all
abbrev pub is_pointer_word : Symbol → Bool
is_pointer_word (Reserved k) = is_qualifier k
is_pointer_word t = is_sign marks.Star t

abbrev pub ArePointers : List Symbol → Type 0
ArePointers [] = Unit {0}
ArePointers (t ∷ ts) = (is_sign marks.Star t ≡ true) × AreAll is_pointer_word ts

-- the words that may stand in front of a bound
abbrev pub is_bound_word : Symbol → Bool
is_bound_word (Reserved words.Static) = true
is_bound_word (Reserved k) = is_qualifier k
is_bound_word _ = false

-- a declarator of which nothing is there
abbrev pub is_nothing : List Symbol → Syntaxes → Bool
is_nothing [] no_more = true
is_nothing _ _ = false

-- In a parameter, a name in parentheses that is a type is the type of a parameter and not the with_param name (6.5.4.3).
abbrev pub is_taken_as_type : Form → Names → Syntax → Bool
is_taken_as_type Either names (Declarator (Named [] (Word name) suffixes)) = is_type names name
is_taken_as_type _ names _ = false

-- `void` alone
abbrev pub lone_void : Syntaxes
lone_void = more (Specifier (Param (Specifier (Specs (more (Part (SpecWord (Reserved words.Void))) no_more))) absent)) no_more

-- `...` stands behind a parameter, and `void` alone is no parameter.
abbrev pub IsList : Syntaxes → Bool → Type 0
IsList no_more true = ⊥
IsList params true = Unit {0}
IsList params false = params ≡ lone_void → ⊥

abbrev mutual
  -- expressions (6.3); each operand stands at its level
  pub IsExpr : Names → Syntax → Type 0
  IsExpr names (Primary k) = IsPrimary names k
  IsExpr names (Operation k) = IsOperation names k
  IsExpr names _ = ⊥

  pub IsPrimary : Names → PrimarySyntax → Type 0
  IsPrimary names (Ident name) = IsOrdinary names name
  IsPrimary names (Constant token) = is_constant token ≡ true
  IsPrimary names (StrConst literals) = AreStrings literals
  IsPrimary names (Paren inner) = IsExpr names inner
  IsPrimary names (VaArg list of) = (grade list ≤ assignment_level) × IsExpr names list × IsTypeName names of
  IsPrimary names (Offsetof of member path) = IsTypeName names of × (is_word member ≡ true) × IsPath names path
  IsPrimary names _ = ⊥

  pub IsOperation : Names → OperationSyntax → Type 0
  IsOperation names (Index array index) = (grade array ≤ postfix_level) × IsExpr names array × IsExpr names index
  IsOperation names (Call callee arguments) = (grade callee ≤ postfix_level) × IsExpr names callee × AreArguments names arguments
  IsOperation names (Member operand member) = (grade operand ≤ postfix_level) × IsExpr names operand × (is_word member ≡ true)
  IsOperation names (Arrow operand member) = (grade operand ≤ postfix_level) × IsExpr names operand × (is_word member ≡ true)
  IsOperation names (Unary op operand) = (grade operand ≤ operand_level op) × IsExpr names operand
  IsOperation names (SizeofType of) = IsTypeName names of
  IsOperation names (Cast to operand) = IsTypeName names to × (grade operand ≤ cast_level) × IsExpr names operand
  IsOperation names (Binary op left right) = (grade left ≤ level_of op) × IsExpr names left × (grade right < level_of op) × IsExpr names right
  IsOperation names (Cond condition then otherwise) = (grade condition ≤ logical_or_level) × IsExpr names condition × IsExpr names then × (grade otherwise ≤ conditional_level) × IsExpr names otherwise
  IsOperation names (Assign op left right) = (grade left ≤ unary_level) × IsExpr names left × (grade right ≤ assignment_level) × IsExpr names right
  IsOperation names _ = ⊥

  pub AreArguments : Names → Syntaxes → Type 0
  AreArguments names no_more = Unit {0}
  AreArguments names (more e es) = (grade e ≤ assignment_level) × IsExpr names e × AreArguments names es

  -- the members and indices behind the first member of an offset
  pub IsPath : Names → Syntaxes → Type 0
  IsPath names no_more = Unit {0}
  IsPath names (more e es) = IsDesignator names e × IsPath names es

  pub IsDesignator : Names → Syntax → Type 0
  IsDesignator names (Part k) = IsDesignatorPart names k
  IsDesignator names _ = ⊥

  pub IsDesignatorPart : Names → PartSyntax → Type 0
  IsDesignatorPart names (MemberDesignator member) = is_word member ≡ true
  IsDesignatorPart names (IndexDesignator index) = IsExpr names index
  IsDesignatorPart names _ = ⊥

  -- type names (6.5.5)
  pub IsTypeName : Names → Syntax → Type 0
  IsTypeName names (Specifier k) = IsTypeNameSpecifier names k
  IsTypeName names _ = ⊥

  pub IsTypeNameSpecifier : Names → SpecifierSyntax → Type 0
  IsTypeNameSpecifier names (TypeName specs declarator) = AreSpecifiers IsTag InTypeName names specs × IsMaybeDeclarator Abstract names declarator
  IsTypeNameSpecifier names _ = ⊥

  -- declarators (6.5.4, 6.5.5)
  pub IsMaybeDeclarator : Form → Names → MaybeSyntax → Type 0
  IsMaybeDeclarator form names absent = Unit {0}
  IsMaybeDeclarator form names (present d) = IsDeclarator form names d

  pub IsDeclarator : Form → Names → Syntax → Type 0
  IsDeclarator form names (Declarator k) = IsDirect form names k
  IsDeclarator form names _ = ⊥

  pub IsDirect : Form → Names → DeclaratorSyntax → Type 0
  IsDirect form names (Named pointers name suffixes) = (may_name form ≡ true) × ArePointers pointers × (is_word name ≡ true) × AreSuffixes names suffixes
  IsDirect form names (Nested pointers inner suffixes) = ArePointers pointers × IsDeclarator form names inner × (is_taken_as_type form names inner ≡ false) × AreSuffixes names suffixes
  IsDirect form names (Unnamed pointers suffixes) = (may_omit form ≡ true) × ArePointers pointers × AreSuffixes names suffixes × (is_nothing pointers suffixes ≡ false)

  pub AreSuffixes : Names → Syntaxes → Type 0
  AreSuffixes names no_more = Unit {0}
  AreSuffixes names (more e es) = IsSuffix names e × AreSuffixes names es

  pub IsSuffix : Names → Syntax → Type 0
  IsSuffix names (Part k) = IsSuffixPart names k
  IsSuffix names _ = ⊥

  pub IsSuffixPart : Names → PartSyntax → Type 0
  IsSuffixPart names (ArrayBound words bound) = AreAll is_bound_word words × IsBound names bound
  IsSuffixPart names VoidParams = Unit {0}
  IsSuffixPart names (Params params variadic) = AreParams names params × IsList params variadic
  IsSuffixPart names _ = ⊥

  pub IsBound : Names → MaybeSyntax → Type 0
  IsBound names absent = Unit {0}
  IsBound names (present e) = (grade e ≤ assignment_level) × IsExpr names e

  -- A parameter's name is in force behind it, up to the end of the list.
  pub AreParams : Names → Syntaxes → Type 0
  AreParams names no_more = Unit {0}
  AreParams names (more e es) = IsParam names e × AreParams (with_param e names) es

  pub IsParam : Names → Syntax → Type 0
  IsParam names (Specifier k) = IsParamSpecifier names k
  IsParam names _ = ⊥

  pub IsParamSpecifier : Names → SpecifierSyntax → Type 0
  IsParamSpecifier names (Param specs declarator) = AreSpecifiers IsTag InParam names specs × IsMaybeDeclarator Either names declarator
  IsParamSpecifier names _ = ⊥

abbrev pub IsOf : Nonterminal → Names → Syntax → Type 0
IsOf (Expression level) names e = (grade e ≤ level) × IsExpr names e
IsOf (Specifiers place) names e = AreSpecifiers IsTag place names e
IsOf NameOfType names e = IsTypeName names e
IsOf (DeclaratorIn form) names e = IsDeclarator form names e
IsOf Parameter names e = IsParam names e

-- The tree is a parse of these symbols under these names.
pub record IsParse (nonterminal : Nonterminal) (names : Names) (e : Syntax) (ts : List Symbol) : Type 0 where
  pub tokens : ts ≡ tokens_of e
  pub well : IsOf nonterminal names e
  pub height : height_of e ≤ 1000
