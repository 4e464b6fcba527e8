use Rattle.c_tree.specs.Views.{node_of, nodes_of}
use Rattle.std.specs.Option.{option_map}
use Rattle.type_rules.specs.Parts.{flat}
use Rattle.type_values.specs.Vars.{cvar_of}
use Rattle.typed_unit.specs.Tables.{table_of}
use Rattle.typed_unit.proofs.Placed.{var-placed}
use Rattle.typed_unit.proofs.typed_unit.TypedUnit.declared.Goals as goal

pub returns-clause-placed : goal.returns-clause-placed
returns-clause-placed c v r h =
    var-placed (nodes_of c.args.self.now.unit.chunks) (table_of c.args.self.now.table) v r (flat (node_of c.args.tree.now)) (option_map cvar_of c.var.result)
    c.cells_are_right.ensures c.places_are_typed.ensures c.args.self.now.typing h.stands h.kept c.var.ensures
