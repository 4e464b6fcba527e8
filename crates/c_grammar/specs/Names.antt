-- The names in force at a place, and what a finished tree adds to them (ISO 9899:1990, 6.1.2.1).
use Rattle.std.specs.Prelude.{ℕ, Bool, true, false, cond, nat_eq, List, [], ◌∷◌, Option, None, Some}
use Rattle.c_tree.specs.Symbol.{Symbol, Word}
use Rattle.c_tree.specs.Syntax.{Syntax, Specifier, Declarator, Part, DeclaratorSyntax, Param, Named, Nested, Unnamed, VoidParams, Params, MaybeSyntax, absent, present, Syntaxes, no_more, more}

-- Each name with whether its declaration makes it a type, the innermost and latest declaration first.
abbrev pub Names : Type 0
Names = List (ℕ × Bool)

-- the declaration in force makes this name a type
unfoldable pub is_type : Names → ℕ → Bool
is_type [] name = false
is_type (declaration ∷ names) name = cond (nat_eq declaration.0 name) declaration.1 (is_type names name)

abbrev pub name_in : Symbol → Option ℕ
name_in (Word name) = Some name
name_in _ = None

-- the name that a declarator declares, if it isn't abstract
abbrev mutual
  pub name_of : Syntax → Option ℕ
  name_of (Declarator k) = declarator_name k
  name_of _ = None

  pub declarator_name : DeclaratorSyntax → Option ℕ
  declarator_name (Named pointers name suffixes) = name_in name
  declarator_name (Nested pointers inner suffixes) = name_of inner
  declarator_name (Unnamed pointers suffixes) = None

abbrev pub with_name : Option ℕ → Bool → Names → Names
with_name None type names = names
with_name (Some name) type names = (name, type) ∷ names

abbrev pub with_declarator : MaybeSyntax → Bool → Names → Names
with_declarator absent type names = names
with_declarator (present d) type names = with_name (name_of d) type names

-- the names behind a parameter: its own hides what was called so before
abbrev pub with_param : Syntax → Names → Names
with_param (Specifier (Param specs declarator)) names = with_declarator declarator false names
with_param _ names = names

-- the names behind all of these
abbrev pub with_params : Syntaxes → Names → Names
with_params no_more names = names
with_params (more e es) names = with_params es (with_param e names)

-- a name alone, maybe in parentheses
abbrev mutual
  pub is_bare : Syntax → Bool
  is_bare (Declarator k) = is_bare_declarator k
  is_bare _ = false

  pub is_bare_declarator : DeclaratorSyntax → Bool
  is_bare_declarator (Named [] name no_more) = true
  is_bare_declarator (Nested [] inner no_more) = is_bare inner
  is_bare_declarator _ = false

-- the parameters of the first suffix, if it is a list of parameters
abbrev pub first_params : Syntaxes → Option Syntaxes
first_params (more (Part (Params params variadic)) suffixes) = Some params
first_params (more (Part VoidParams) suffixes) = Some no_more
first_params _ = None

-- the parameters of a declarator that, read from its name outward, is first of all a function
abbrev mutual
  pub params_of : Syntax → Option Syntaxes
  params_of (Declarator k) = declarator_params k
  params_of _ = None

  pub declarator_params : DeclaratorSyntax → Option Syntaxes
  declarator_params (Named pointers name suffixes) = first_params suffixes
  declarator_params (Nested pointers inner suffixes) = cond (is_bare inner) (first_params suffixes) (params_of inner)
  declarator_params (Unnamed pointers suffixes) = None
