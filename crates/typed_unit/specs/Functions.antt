-- The definition of a function that one of the program is.
use Rattle.std.specs.Prelude.{map}
use Rattle.std.specs.Option.{option_map}
use Rattle.c_tree.specs.Views.{node_of}
use Rattle.type_rules.specs.Functions.{Defined}
use Rattle.typed_unit.specs.declared.functions.TypedFunction.{TypedFunction}
use Rattle.type_values.specs.Vars.{cvar_of}

abbrev pub function_of : TypedFunction → Defined
function_of f = record {
  name = f.name;
  own = f.own;
  file = f.file;
  formals = map (option_map cvar_of) f.formals.items;
  body = node_of f.body.now;
  place = f.place;
}
