-- The grammar of specifiers with bodies, initial values and declarations (ISO 9899:1990, 6.5, 6.5.2, 6.5.7) as predicates on
-- finished trees, under the names in force.
use Rattle.std.specs.Prelude.{◌≡◌, ◌≤◌, ℕ, Bool, true, false, not, ◌||◌, Option, None, Some}
use Rattle.c_tree.specs.Symbol.{Symbol, Word}
use Rattle.c_tree.specs.Syntax.{Syntax, Primary, Initializer, Specifier, Declarator, Part, Outer, InitializerSyntax, SpecifierSyntax, Ident, Init, Braces, Specs, StructTag, StructBody, EnumTag, EnumBody, StructDeclaration, BitField, SpecWord, Enumerator, Declaration, Empty, MaybeSyntax, absent, present, Syntaxes, no_more, more}
use Rattle.c_grammar.specs.Symbols.{is_word}
use Rattle.c_grammar.specs.Levels.{conditional_level, assignment_level, grade}
use Rattle.c_grammar.specs.Names.{Names, name_of, with_name}
use Rattle.c_grammar.specs.Specifiers.{Place, InTypeName, InDeclaration, is_specifier, types, fit}
use Rattle.c_grammar.specs.Nonterminal.{WithName}
use Rattle.c_grammar.specs.Grammar.{IsExpr, IsDeclarator, IsMaybeDeclarator}
use Rattle.c_grammar.specs.UnitGrammar.Names.{declared, declared_name, makes_types}

abbrev pub has_any : Syntaxes → Bool
has_any no_more = false
has_any (more e es) = true

-- a constant expression (6.4)
abbrev pub IsConstant : Names → Syntax → Type 0
IsConstant names e = (grade e ≤ conditional_level) × IsExpr names e

abbrev pub IsMaybeConstant : Names → MaybeSyntax → Type 0
IsMaybeConstant names absent = Unit {0}
IsMaybeConstant names (present e) = IsConstant names e

abbrev pub IsMaybeTag : Option Symbol → Type 0
IsMaybeTag None = Unit {0}
IsMaybeTag (Some tag) = is_word tag ≡ true

-- An enumerator is in force behind its own value (6.1.2.1).
abbrev pub IsEnumerator : Names → Syntax → Type 0
IsEnumerator names (Part (Enumerator name value)) = (is_word name ≡ true) × IsMaybeConstant names value
IsEnumerator names _ = ⊥

abbrev pub AreEnumerators : Names → Syntaxes → Type 0
AreEnumerators names no_more = Unit {0}
AreEnumerators names (more e es) = IsEnumerator names e × AreEnumerators (declared e names) es

-- a declarator, or a bit-field, whose declarator may be missing (6.5.2.1)
abbrev pub IsMemberDeclarator : Names → Syntax → Type 0
IsMemberDeclarator names (Declarator k) = IsDeclarator WithName names (Declarator k)
IsMemberDeclarator names (Specifier (BitField declarator width)) = IsMaybeDeclarator WithName names declarator × IsConstant names width
IsMemberDeclarator names _ = ⊥

abbrev pub AreMemberDeclarators : Names → Syntaxes → Type 0
AreMemberDeclarators names no_more = Unit {0}
AreMemberDeclarators names (more e es) = IsMemberDeclarator names e × AreMemberDeclarators names es

-- among these specifiers is a structure or union with its body
abbrev pub is_struct_body : Syntax → Bool
is_struct_body (Specifier (StructBody which tag members)) = true
is_struct_body _ = false

abbrev pub has_struct_body : Syntaxes → Bool
has_struct_body no_more = false
has_struct_body (more e es) = is_struct_body e || has_struct_body es

-- Members may be declared without a declarator where their type is a structure or union with its body: they have no name.
abbrev pub makes_members : Syntax → Bool
makes_members (Specifier (Specs items)) = has_struct_body items
makes_members _ = false

-- Specifiers as in a type name, and bodies too. No type stands behind a body, so what a body declares makes no difference to
-- the specifiers behind it.
abbrev mutual
  pub AreFullSpecifiers : Place → Names → Syntax → Type 0
  AreFullSpecifiers place names (Specifier k) = AreSpecs place names k
  AreFullSpecifiers place names _ = ⊥

  pub AreSpecs : Place → Names → SpecifierSyntax → Type 0
  AreSpecs place names (Specs items) = AreFullItems names false items × (fit place items ≡ true)
  AreSpecs place names _ = ⊥

  pub AreFullItems : Names → Bool → Syntaxes → Type 0
  AreFullItems names typed no_more = Unit {0}
  AreFullItems names typed (more e es) = IsFullItem names typed e × AreFullItems names (typed || types e) es

  pub IsFullItem : Names → Bool → Syntax → Type 0
  IsFullItem names typed (Part (SpecWord word)) = is_specifier names typed word ≡ true
  IsFullItem names typed (Specifier k) = IsTagged names k
  IsFullItem names typed _ = ⊥

  -- (6.5.2.1, 6.5.2.2)
  pub IsTagged : Names → SpecifierSyntax → Type 0
  IsTagged names (StructTag which tag) = is_word tag ≡ true
  IsTagged names (EnumTag tag) = is_word tag ≡ true
  IsTagged names (StructBody which tag members) = IsMaybeTag tag × AreMembers names members
  IsTagged names (EnumBody tag enumerators comma) = IsMaybeTag tag × AreEnumerators names enumerators × (has_any enumerators ≡ true)
  IsTagged names _ = ⊥

  pub AreMembers : Names → Syntaxes → Type 0
  AreMembers names no_more = Unit {0}
  AreMembers names (more e es) = IsMember names e × AreMembers (declared e names) es

  -- a lone `;` is a member too
  pub IsMember : Names → Syntax → Type 0
  IsMember names (Outer Empty) = Unit {0}
  IsMember names (Specifier k) = IsMemberDeclaration names k
  IsMember names _ = ⊥

  pub IsMemberDeclaration : Names → SpecifierSyntax → Type 0
  IsMemberDeclaration names (StructDeclaration specs declarators) = AreFullSpecifiers InTypeName names specs × AreMemberDeclarators (declared specs names) declarators × ((has_any declarators || makes_members specs) ≡ true)
  IsMemberDeclaration names _ = ⊥

-- An expression, or in braces a list of initial values, behind which a comma may stand.
abbrev mutual
  pub IsInitial : Names → Syntax → Type 0
  IsInitial names (Initializer k) = IsBraces names k
  IsInitial names e = (grade e ≤ assignment_level) × IsExpr names e

  pub IsBraces : Names → InitializerSyntax → Type 0
  IsBraces names (Braces elements comma) = AreInitials names elements × ((has_any elements || not comma) ≡ true)
  IsBraces names _ = ⊥

  pub AreInitials : Names → Syntaxes → Type 0
  AreInitials names no_more = Unit {0}
  AreInitials names (more e es) = IsInitial names e × AreInitials names es

-- the name of a declarator as an identifier
abbrev pub IsNameTree : Option ℕ → Syntax → Type 0
IsNameTree None e = ⊥
IsNameTree (Some name) e = e ≡ Primary (Ident (Word name))

-- A declared name is in force in its own initial value.
abbrev pub IsInitDeclarator : Bool → Names → Syntax → Type 0
IsInitDeclarator type names (Declarator k) = IsDeclarator WithName names (Declarator k)
IsInitDeclarator type names (Initializer (Init name declarator initial)) = IsNameTree (name_of declarator) name × IsDeclarator WithName names declarator × IsInitial (with_name (name_of declarator) type names) initial
IsInitDeclarator type names _ = ⊥

abbrev pub AreInitDeclarators : Bool → Names → Syntaxes → Type 0
AreInitDeclarators type names no_more = Unit {0}
AreInitDeclarators type names (more e es) = IsInitDeclarator type names e × AreInitDeclarators type (with_name (declared_name e) type names) es

abbrev pub IsDeclaration : Names → Syntax → Type 0
IsDeclaration names (Outer (Declaration specs declarators)) = AreFullSpecifiers InDeclaration names specs × AreInitDeclarators (makes_types specs) (declared specs names) declarators
IsDeclaration names _ = ⊥
