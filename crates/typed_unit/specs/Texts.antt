-- A unit as everything behind the front end is told of it: its trees, the table of their types, and its tokens.
use Rattle.std.specs.Prelude.{List, map}
use Rattle.std.specs.Borrow.{Bor}
use Rattle.c_tree.specs.declared.token.Token.{Token}
use Rattle.c_tree.specs.Node.{Nodes}
use Rattle.c_tree.specs.Views.{nodes_of}
use Rattle.type_rules.specs.Definition.{Table}
use Rattle.typed_unit.specs.declared.typed_unit.TypedUnit.{TypedUnit}
use Rattle.typed_unit.specs.Tables.{table_of}

pub record Text : Type 0 where
  pub trees : Nodes
  pub table : Table
  pub tokens : List Token

abbrev pub text_of : TypedUnit → Text
text_of u = record { trees = nodes_of u.unit.chunks; table = table_of u.table; tokens = u.unit.tokens.now }

-- THE TEXTS of units, in the order of their files
abbrev pub texts_of : List (Bor TypedUnit) → List Text
texts_of units = map (λ u. text_of u.now) units
