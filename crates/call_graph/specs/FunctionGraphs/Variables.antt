-- Which declarators declare a variable with automatic storage (ISO 9899:1990, 6.1.2.4).
use Rattle.std.specs.Prelude.{Option, None, Some}
use Rattle.flow_graph.specs.CPaths.Events.{Variable}
use Rattle.c_tree.specs.Node.{Node}
use Rattle.type_rules.specs.Definition.{Table, at, number_of}
use Rattle.type_rules.specs.Options.{◌>?◌}
use Rattle.type_rules.specs.Parts.{flat}
use Rattle.type_rules.specs.Vars.{CVar}
use Rattle.type_rules.specs.Vars as vars
use Rattle.typed_unit.specs.Tables.{var_in}

-- a variable of a block, unless it is `static` or `extern`; a parameter is none
abbrev pub automatic : CVar → Option Variable
automatic (vars.Local file token name) = Some (record { place = record { file = file; token = token }; name = name })
automatic _ = None

-- the variable that the table has for a declarator
abbrev pub variable_of : Table → Node → Option Variable
variable_of table declarator = var_in (at (number_of (flat declarator)) table) >? automatic
