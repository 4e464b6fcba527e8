-- The definitions of functions in a unit (ISO 9899:1990, 6.7.1), and the tags of its structures and unions.
use Rattle.std.specs.Prelude.{ℕ, List, [], ◌∷◌, get_or, Option, None, Bool, true, false, cond, ◌&&◌, ◌||◌, nat_eq}
use Rattle.std.specs.Option.{option_map}
use Rattle.c_grammar.specs.Specifiers.{is_inline}
use Rattle.c_tree.specs.declared.place.Place.{Place}
use Rattle.c_tree.specs.declared.token.Token.{Token}
use Rattle.c_tree.specs.Node.{Node, node, Specifier, Declarator, Part, Outer, DeclaratorShape, Specs, Param, Named, Nested, Unnamed, Params, Function, MaybeNode, absent, present, Nodes, no_more, more}
use Rattle.type_rules.specs.Declarators.{name_of, is_bare}
use Rattle.type_rules.specs.Definition.{after, after_all}
use Rattle.type_rules.specs.Options.{if_there}
use Rattle.type_rules.specs.Parts.{flat}
use Rattle.type_rules.specs.Roles.{Plain}
use Rattle.type_rules.specs.Scopes.{Scopes, Entry, at_start}
use Rattle.type_rules.specs.Ways.ScopesByCase.{scoped}
use Rattle.type_rules.specs.Specified.{Storage, keyword_in, storage_of}
use Rattle.type_rules.specs.Specified as stored
use Rattle.type_rules.specs.Types.{CType, Struct, Union}
use Rattle.type_rules.specs.Unit.{visits_of, plainly}
use Rattle.type_rules.specs.Vars.{CVar}
use Rattle.type_rules.specs.Vars as vars

-- A function that a unit defines. `own`: it belongs to its file alone. A formal without a name is None. The place is that of
-- its name.
pub record Defined : Type 0 where
  pub name : ℕ
  pub own : Bool
  pub file : ℕ
  pub formals : List (Option CVar)
  pub body : Node
  pub place : Place

abbrev pub formal_var : Token → CVar
formal_var name = vars.Param name.place.file name.place.token name.name

abbrev pub name_in : MaybeNode → Option Token
name_in absent = None
name_in (present d) = name_of d

abbrev pub formal_in : Node → Option CVar
formal_in (node i p (Specifier (Param specs declarator))) = option_map formal_var (name_in declarator)
formal_in _ = None

abbrev pub formals_in : Nodes → List (Option CVar)
formals_in no_more = []
formals_in (more e es) = formal_in e ∷ formals_in es

-- the parameters beside a name
abbrev pub first_formals : Nodes → List (Option CVar)
first_formals (more (node i p (Part (Params params variadic))) suffixes) = formals_in params
first_formals _ = []

-- the parameters of a declarator that, read from its name outward, is first of all a function
abbrev mutual
  pub formals_of : Node → List (Option CVar)
  formals_of (node i p (Declarator k)) = formals_of_shape k
  formals_of _ = []

  pub formals_of_shape : DeclaratorShape → List (Option CVar)
  formals_of_shape (Named pointers name suffixes) = first_formals suffixes
  formals_of_shape (Nested pointers inner suffixes) = cond (is_bare inner) (first_formals suffixes) (formals_of inner)
  formals_of_shape (Unnamed pointers suffixes) = []

abbrev pub any_inline : Nodes → Bool
any_inline no_more = false
any_inline (more e es) = if_there (keyword_in e) false is_inline || any_inline es

abbrev pub has_inline : Node → Bool
has_inline (node i p (Specifier (Specs items))) = any_inline items
has_inline _ = false

abbrev pub is_static : Storage → Bool
is_static stored.Static = true
is_static _ = false

abbrev pub is_file_static : CVar → Bool
is_file_static (vars.FileStatic file name) = true
is_file_static _ = false

-- one of these declarations of the name is `static`
abbrev pub was_static : ℕ → List Entry → Bool
was_static name [] = false
was_static name (k ∷ ks) = nat_eq k.name name && if_there k.var false is_file_static || was_static name ks

-- A definition belongs to its file alone where it is `static` or `inline`, or where an earlier declaration of its name at file
-- scope is `static` (6.1.2.2).
abbrev pub defined : Scopes → Node → Node → Node → Token → Defined
defined v specs declarator block name = record {
  name = name.name;
  own = is_static (storage_of specs) || has_inline specs || was_static name.name v.names;
  file = name.place.file;
  formals = formals_of declarator;
  body = block;
  place = name.place;
}

abbrev pub defined_in : Scopes → Node → Option Defined
defined_in v (node i p (Outer (Function specs declarator block))) = option_map (defined v specs declarator block) (name_of declarator)
defined_in v _ = None

-- the functions that these define, in order
abbrev pub functions_in : Scopes → Nodes → List Defined
functions_in v no_more = []
functions_in v (more e es) = if_there (defined_in v e) (functions_in (after v Plain (flat e)) es) (λ f. f ∷ functions_in (after v Plain (flat e)) es)

abbrev pub functions_of : Nodes → List Defined
functions_of unit = functions_in at_start unit

-- the same under the scopes that are written out for each kind, as code goes through them
abbrev pub defined_each : Scopes → Nodes → List Defined
defined_each v no_more = []
defined_each v (more e es) = if_there (defined_in v e) (defined_each (scoped v Plain e) es) (λ f. f ∷ defined_each (scoped v Plain e) es)

-- the tags of the structures and unions of a unit, by their numbers
abbrev pub structs_of : Nodes → List (Option ℕ)
structs_of unit = (after_all plainly at_start (visits_of unit)).structs

-- the tag of a structure or union
abbrev pub tag_of : Nodes → CType → Option ℕ
tag_of unit (Struct n) = get_or (structs_of unit) n None
tag_of unit (Union n) = get_or (structs_of unit) n None
tag_of unit _ = None
