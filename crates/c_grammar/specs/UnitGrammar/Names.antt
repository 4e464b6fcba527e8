-- What a finished tree adds to the names in force behind it (ISO 9899:1990, 6.1.2.1).
use Rattle.std.specs.Prelude.{ℕ, Bool, false, ◌||◌, List, [], ◌∷◌, Option}
use Rattle.c_tree.specs.declared.keyword.Keyword.{Keyword}
use Rattle.c_tree.specs.declared.keyword.Keyword.TheVariants as words
use Rattle.c_tree.specs.Syntax.{Syntax, Initializer, Specifier, Part, Outer, SpecifierSyntax, PartSyntax, OuterSyntax, Init, Specs, StructBody, EnumBody, StructDeclaration, Enumerator, Declaration, Function, Syntaxes, no_more, more}
use Rattle.c_grammar.specs.Symbols.{same_keyword}
use Rattle.c_grammar.specs.Names.{Names, name_in, name_of, with_name}
use Rattle.c_grammar.specs.Specifiers.{storages}

-- `typedef` is among these words (6.5.6)
unfoldable pub has_typedef : List Keyword → Bool
has_typedef [] = false
has_typedef (k ∷ ks) = same_keyword words.Typedef k || has_typedef ks

-- what is declared with these specifiers is a type
abbrev pub makes_types : Syntax → Bool
makes_types (Specifier (Specs items)) = has_typedef (storages items)
makes_types _ = false

-- the name that a declarator declares, with or without an initial value
abbrev pub declared_name : Syntax → Option ℕ
declared_name (Initializer (Init name declarator initial)) = name_of declarator
declared_name e = name_of e

abbrev pub with_declarators : Bool → Syntaxes → Names → Names
with_declarators type no_more names = names
with_declarators type (more e es) names = with_declarators type es (with_name (declared_name e) type names)

-- The names behind a tree. Specifiers with a body add enumerators, those of their members' specifiers among them; members,
-- tags and labels have name spaces of their own (6.1.2.3). Statements add nothing, for their blocks end with them.
abbrev mutual
  pub declared : Syntax → Names → Names
  declared (Specifier k) names = declared_by_specifier k names
  declared (Part k) names = declared_by_part k names
  declared (Outer k) names = declared_outside k names
  declared _ names = names

  pub declared_by_specifier : SpecifierSyntax → Names → Names
  declared_by_specifier (Specs items) names = declared_by_all items names
  declared_by_specifier (StructBody which tag members) names = declared_by_all members names
  declared_by_specifier (EnumBody tag enumerators comma) names = declared_by_all enumerators names
  declared_by_specifier (StructDeclaration specs declarators) names = declared specs names
  declared_by_specifier _ names = names

  pub declared_by_part : PartSyntax → Names → Names
  declared_by_part (Enumerator name value) names = with_name (name_in name) false names
  declared_by_part _ names = names

  pub declared_outside : OuterSyntax → Names → Names
  declared_outside (Declaration specs declarators) names = with_declarators (makes_types specs) declarators (declared specs names)
  declared_outside (Function specs declarator body) names = with_name (name_of declarator) false (declared specs names)
  declared_outside _ names = names

  pub declared_by_all : Syntaxes → Names → Names
  declared_by_all no_more names = names
  declared_by_all (more e es) names = declared_by_all es (declared e names)
