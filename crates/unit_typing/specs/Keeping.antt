-- What is kept of a declarator.
use Rattle.std.specs.Prelude.{ℕ, is_some, Result}
use Rattle.c_tree.specs.Node.{Declarator, DeclaratorShape}
use Rattle.type_rules.specs.Definition.{Table}
use Rattle.type_rules.specs.Faults.{Fault}
use Rattle.type_rules.specs.Moves.{declares}
use Rattle.type_rules.specs.Order.{put_kept}
use Rattle.type_rules.specs.Roles.{Role}
use Rattle.type_rules.specs.Rows.{var_of}
use Rattle.type_rules.specs.Scopes.{Scopes}
use Rattle.type_rules.specs.Types.{CType}

-- the table behind a declarator with this number, where this was found, from the scopes behind its parts and the table there
abbrev pub with_declarator : Scopes → Role → ℕ → DeclaratorShape → Result CType Fault → Table → Table
with_declarator w r number d found table = put_kept (is_some (declares w r d)) number (var_of w w r (Declarator d)) found table
