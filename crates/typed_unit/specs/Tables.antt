-- The table that a table of the program is.
use Rattle.std.specs.Prelude.{map, Option, None, Some}
use Rattle.std.specs.Option.{option_map}
use Rattle.type_rules.specs.Definition.{Table}
use Rattle.type_rules.specs.Definition as kept
use Rattle.typed_unit.specs.declared.table.Cell.{Cell}
use Rattle.typed_unit.specs.declared.table.Table as code
use Rattle.type_values.specs.Types.{ctype_of}
use Rattle.type_values.specs.Vars.{cvar_of}
use Rattle.type_rules.specs.Types.{CType, Void}
use Rattle.type_rules.specs.Vars.{CVar}

abbrev pub cell_of : Cell → kept.Cell
cell_of c = record { ty = ctype_of c.ty; var = option_map cvar_of c.var }

abbrev pub table_of : code.Table → Table
table_of t = map (option_map cell_of) t.cells.items

-- the variable in a cell, if there is one
abbrev pub var_in : Option kept.Cell → Option CVar
var_in None = None
var_in (Some c) = c.var

-- the type in a cell, and `Void` where there is none
abbrev pub type_in : Option kept.Cell → CType
type_in None = Void
type_in (Some c) = c.ty
