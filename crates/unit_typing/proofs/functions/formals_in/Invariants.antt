use Rattle.std.proofs.Common.{◌≡◌, ◌++◌, drop, map}
use Rattle.std.specs.Option.{option_map}
use Rattle.c_tree.specs.Views.{nodes_in, nodes_of}
use Rattle.type_rules.specs.Functions.{formals_in}
use Rattle.type_values.specs.Vars.{cvar_of}
use Rattle.unit_typing.proofs.functions.formals_in.Given as goal

-- the parameters so far, and then those that are left
abbrev pub invariant-loop-param : goal.invariant-loop-param
invariant-loop-param l = map (option_map cvar_of) l.found.items ++ formals_in (nodes_in (drop l.param-index l.param-items)) ≡ formals_in (nodes_of l.params)
