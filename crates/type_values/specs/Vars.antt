-- The variable that a variable of the program is.
use Rattle.type_rules.specs.Vars.{CVar}
use Rattle.type_rules.specs.Vars as vars
use Rattle.type_values.specs.declared.vars.Var.{Var}
use Rattle.type_values.specs.declared.vars.Var.TheVariants as var

abbrev pub cvar_of : Var → CVar
cvar_of (var.Extern name) = vars.Extern name
cvar_of (var.FileStatic file name) = vars.FileStatic file name
cvar_of (var.LocalStatic file token name) = vars.LocalStatic file token name
cvar_of (var.Param file token name) = vars.Param file token name
cvar_of (var.Local file token name) = vars.Local file token name
cvar_of var.Result = vars.Result
cvar_of (var.Called file token name) = vars.Called file token name
