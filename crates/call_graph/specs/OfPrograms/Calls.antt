-- Which body a call calls: its callee, without parentheses, is the name of a function (ISO 9899:1990, 6.3.2.2).
use Rattle.std.specs.Prelude.{ℕ, List, [], Option, None, Some, cond, slice_get}
use Rattle.std.specs.Borrow.{Bor}
use Rattle.c_tree.specs.declared.place.Place.{Place}
use Rattle.c_tree.specs.declared.token.Token.{Token}
use Rattle.c_tree.specs.Node.{Node, node, Primary, Operation, PrimaryShape, Ident, Paren, Call}
use Rattle.type_rules.specs.Definition.{Table, at}
use Rattle.type_rules.specs.Functions.{Defined}
use Rattle.type_rules.specs.Options.{if_there, ok, ◌>?◌}
use Rattle.type_rules.specs.Roles.{Role, Plain, Callee}
use Rattle.type_rules.specs.Rows.{identifier}
use Rattle.type_rules.specs.Scopes.{Scopes}
use Rattle.type_rules.specs.Types.{CType, is_function}
use Rattle.call_graph.specs.OfPrograms.Bodies.{body_of}
use Rattle.typed_unit.specs.declared.typed_unit.TypedUnit.{TypedUnit}
use Rattle.typed_unit.specs.Tables.{table_of, type_in}

-- a name with this type, if that is a function's
abbrev pub if_function : Token → CType → Option ℕ
if_function name t = cond (is_function t) (Some name.name) None

-- THE FUNCTION THAT A CALLEE NAMES, by the types that a unit's table has. A variable or parameter is none, even if a function
-- of its name is defined somewhere; a name without a declaration is that of a function.
abbrev mutual
  pub function_named : Table → Node → Option ℕ
  function_named table (node i p (Primary k)) = function_in table i k
  function_named table _ = None

  pub function_in : Table → ℕ → PrimaryShape → Option ℕ
  function_in table i (Ident name) = if_function name (type_in (at i table))
  function_in table i (Paren inner) = function_named table inner
  function_in table i _ = None

-- the same by the declarations in force where the callee stands
abbrev mutual
  pub function_named_at : Scopes → Role → Node → Option ℕ
  function_named_at v r (node i p (Primary k)) = function_in_at v r p k
  function_named_at v r _ = None

  pub function_in_at : Scopes → Role → Place → PrimaryShape → Option ℕ
  function_in_at v r p (Ident name) = if_there (ok (identifier v r p name)) None (if_function name)
  function_in_at v r p (Paren inner) = function_named_at v Plain inner
  function_in_at v r p _ = None

-- the function whose name a call calls
abbrev pub called_name : Table → Node → Option ℕ
called_name table (node i p (Operation (Call callee paren arguments))) = function_named table callee
called_name table _ = None

abbrev pub called_name_at : Scopes → Node → Option ℕ
called_name_at v (node i p (Operation (Call callee paren arguments))) = function_named_at v Callee callee
called_name_at v _ = None

-- THE BODY THAT A CALL CALLS, if there is one, by the position of its definition: the table is that of the unit with this file,
-- in which the call stands.
abbrev pub body_called : Table → ℕ → List Defined → Node → Option ℕ
body_called table file fs call = called_name table call >? λ name. body_of file name fs

abbrev pub body_called_at : Scopes → ℕ → List Defined → Node → Option ℕ
body_called_at v file fs call = called_name_at v call >? λ name. body_of file name fs

-- the table of the unit with this number
abbrev pub table_in : List (Bor TypedUnit) → ℕ → Table
table_in units file = if_there (slice_get units file) [] (λ u. table_of u.now.table)
