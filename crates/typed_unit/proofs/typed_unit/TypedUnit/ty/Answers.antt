use Rattle.std.proofs.Common.{◌∙◌, ap, sym, Bor, Some}
use Rattle.std.proofs.Math.Logic.{∥∥₁_elim}
use Rattle.std.specs.Option.{option_map}
use Rattle.c_tree.specs.Views.{node_of, nodes_of}
use Rattle.type_rules.specs.Definition.{var_at}
use Rattle.type_rules.specs.Parts.{flat}
use Rattle.typed_unit.specs.declared.table.Cell.{Cell}
use Rattle.typed_unit.specs.Tables.{cell_of, table_of, type_in}
use Rattle.typed_unit.proofs.Placed.{cell-at, nothing, some-type}
use Rattle.typed_unit.proofs.Sets.{maybe-type-set, type-set}
use Rattle.typed_unit.proofs.typed_unit.TypedUnit.ty.Goals as goal

pub returns-in-Some-clause-placed : goal.returns-in-Some-clause-placed
returns-in-Some-clause-placed c v r h =
    let table = table_of c.args.self.now.table in
    let e = flat (node_of c.args.tree.now) in
    ∥∥₁_elim c.args.self.now.typing (maybe-type-set _ _)
    (λ t.
    let x = cell-at (nodes_of c.args.self.now.unit.chunks) table v r e c.cells_are_right.ensures c.places_are_typed.ensures t h.stands h.kept in
    x.1 ∙ ap Some (some-type (cell_of c.in-Some.cell.now) x.0 (var_at v r e) (sym (ap (option_map (λ (k : Bor Cell). cell_of k.now)) c.in-Some.is) ∙ c.cell.ensures ∙ x.2)))

pub returns-clause-placed : goal.returns-clause-placed
returns-clause-placed c v r h =
    let table = table_of c.args.self.now.table in
    let e = flat (node_of c.args.tree.now) in
    ∥∥₁_elim c.args.self.now.typing (maybe-type-set _ _)
    (λ t.
    let x = cell-at (nodes_of c.args.self.now.unit.chunks) table v r e c.cells_are_right.ensures c.places_are_typed.ensures t h.stands h.kept in
    absurd (nothing _ _ (sym (ap (option_map (λ (k : Bor Cell). cell_of k.now)) c.in_default.is) ∙ c.cell.ensures) x.2))

pub returns-clause-kept : goal.returns-clause-kept
returns-clause-kept c =
    let none = sym c.cell.ensures ∙ ap (option_map (λ (k : Bor Cell). cell_of k.now)) c.in_default.is in
    ∥∥₁_elim c.args.self.now.typeless (type-set _ _) (λ v. v ∙ sym (ap type_in none))
