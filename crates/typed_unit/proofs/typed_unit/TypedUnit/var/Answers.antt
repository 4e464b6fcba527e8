use Rattle.std.proofs.Common.{◌≡◌, ◌∙◌, sym, true}
use Rattle.std.specs.Option.{option_map}
use Rattle.c_tree.specs.Views.{node_of, nodes_of}
use Rattle.type_rules.specs.Definition.{var_at}
use Rattle.type_rules.specs.Parts.{flat}
use Rattle.type_values.specs.Vars.{cvar_of}
use Rattle.typed_unit.specs.Places.{is_identifier}
use Rattle.typed_unit.specs.Tables.{table_of}
use Rattle.typed_unit.proofs.Placed.{chosen, identifier-kept, var-placed}
use Rattle.typed_unit.proofs.typed_unit.TypedUnit.var.Goals as goal

pub returns-then-is_identifier-clause-placed : goal.returns-then-is_identifier-clause-placed
returns-then-is_identifier-clause-placed c v r m =
    let e = node_of c.args.tree.now in
    let named : is_identifier e ≡ true = sym c.is_identifier.ensures ∙ c.if-is_identifier.true in
    chosen (is_identifier e) (option_map cvar_of c.var.result) (var_at v r (flat e)) named
    (var-placed (nodes_of c.args.self.now.unit.chunks) (table_of c.args.self.now.table) v r (flat e) (option_map cvar_of c.var.result)
    c.cells_are_right.ensures c.places_are_typed.ensures c.args.self.now.typing m (identifier-kept v r e named) c.var.ensures)
