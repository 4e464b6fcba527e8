-- What is known of the trees of a typed unit: the type and the variable of each node by its number, and the tags of the
-- structures and unions by theirs.
use Rattle.std.specs.Prelude.{ℕ, List, get_or, Option, None}
use Rattle.c_tree.specs.Node.{Node, node, Nodes}
use Rattle.type_rules.specs.Definition.{Table, at}
use Rattle.type_rules.specs.Functions.{structs_of}
use Rattle.type_rules.specs.Options.{if_there, ◌>?◌}
use Rattle.type_rules.specs.Types.{CType, Void}
use Rattle.type_rules.specs.Vars.{CVar}

pub record Facts : Type 0 where
  pub table : Table
  pub structs : List (Option ℕ)

-- the facts of a unit that this table types
abbrev pub facts_of : Nodes → Table → Facts
facts_of unit table = record { table = table; structs = structs_of unit }

-- the type of the node of this number, and `Void` where the table has none; a table that types a unit has one for each
-- expression, type name and declared name
abbrev pub numbered_type : Facts → ℕ → CType
numbered_type u i = if_there (at i u.table) Void (λ c. c.ty)

abbrev pub numbered_var : Facts → ℕ → Option CVar
numbered_var u i = at i u.table >? λ c. c.var

abbrev pub type_in : Facts → Node → CType
type_in u (node i p s) = numbered_type u i

abbrev pub var_in : Facts → Node → Option CVar
var_in u (node i p s) = numbered_var u i

-- the tag of the structure or union of this number
abbrev pub tag_in : Facts → ℕ → Option ℕ
tag_in u n = get_or u.structs n None
