-- What is in force at a place (ISO 9899:1990, 6.1.2.1 to 6.1.2.3): names, tags, and the structures and unions so far.
use Rattle.std.specs.Prelude.{ℕ, ◌+◌, List, [], ◌∷◌, ◌++◌, length, drop, Option, None, Some, Bool, cond, ◌&&◌, nat_eq}
use Rattle.c_tree.specs.declared.place.Place.{Place}
pub use Rattle.c_grammar.specs.UnitGrammar.Control.{has_name as is_among}
use Rattle.type_rules.specs.Options.{or_else}
use Rattle.type_rules.specs.Types.{CType}
use Rattle.type_rules.specs.Vars.{CVar}

-- a variable or function, the name of a type, or an enumerator
pub data Class : Type 0 where
  Variable : Class
  Typedef : Class
  Enumerator : Class

-- A name that was declared at this depth. `again`: it is `extern` or a function, so that a block may declare it once more.
pub record Entry : Type 0 where
  pub name : ℕ
  pub depth : ℕ
  pub class : Class
  pub ty : CType
  pub var : Option CVar
  pub again : Bool

pub data Sort : Type 0 where
  Structs : Sort
  Unions : Sort
  Enums : Sort

-- A tag that was declared at this depth, with the number of its structure or union; an enumeration has none, and the number
-- says nothing there. `body`: it has one, maybe still open.
pub record Tag : Type 0 where
  pub name : ℕ
  pub depth : ℕ
  pub sort : Sort
  pub number : ℕ
  pub body : Bool

-- a member of the structure or union with the number `owner`, and the place of its name
pub record Member : Type 0 where
  pub owner : ℕ
  pub name : ℕ
  pub place : Place
  pub ty : CType

-- The names and tags in force, the innermost and latest last, and the depth of the scope; of each structure and union, by its
-- number, the tag; the numbers of those that are complete; all members; and, between a function's parameters and its body, the
-- names and tags that the parameters declare, which are in force in the body.
pub record Scopes : Type 0 where
  pub names : List Entry
  pub tags : List Tag
  pub depth : ℕ
  pub structs : List (Option ℕ)
  pub complete : List ℕ
  pub members : List Member
  pub formal_names : List Entry
  pub formal_tags : List Tag

-- at the beginning of a unit, at file scope
abbrev pub at_start : Scopes
at_start = record { names = []; tags = []; depth = 0; structs = []; complete = []; members = []; formal_names = []; formal_tags = [] }

-- the last declaration of a name hides the others
abbrev pub latest : ℕ → List Entry → Option Entry
latest n [] = None
latest n (k ∷ ks) = or_else (latest n ks) (cond (nat_eq k.name n) (Some k) None)

abbrev pub latest_tag : ℕ → List Tag → Option Tag
latest_tag n [] = None
latest_tag n (k ∷ ks) = or_else (latest_tag n ks) (cond (nat_eq k.name n) (Some k) None)

-- the member of this name in the structure or union of this number
abbrev pub member_of : ℕ → ℕ → List Member → Option Member
member_of o n [] = None
member_of o n (m ∷ ms) = cond (nat_eq m.owner o && nat_eq m.name n) (Some m) (member_of o n ms)

abbrev pub with_name : Scopes → Entry → Scopes
with_name v k = record v { names = v.names ++ (k ∷ []) }

abbrev pub with_member : Scopes → Member → Scopes
with_member v m = record v { members = v.members ++ (m ∷ []) }

-- a new scope in this one
abbrev pub deeper : Scopes → Scopes
deeper v = record v { depth = v.depth + 1 }

-- Behind a scope that was opened under v and ends as w: the names and tags are those of before. Structures and unions stay.
abbrev pub leave : Scopes → Scopes → Scopes
leave v w = record w { names = v.names; tags = v.tags; depth = v.depth }

-- The same, and what the scope declared is kept as the parameters of the function that is being defined.
abbrev pub leave_formals : Scopes → Scopes → Scopes
leave_formals v w = record (leave v w) { formal_names = drop (length v.names) w.names; formal_tags = drop (length v.tags) w.tags }

-- the scope of a function's body, with its parameters
abbrev pub body_of : Scopes → Scopes
body_of v = record v { names = v.names ++ v.formal_names; tags = v.tags ++ v.formal_tags; depth = v.depth + 1; formal_names = []; formal_tags = [] }
