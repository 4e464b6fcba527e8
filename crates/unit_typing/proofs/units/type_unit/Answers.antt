use Rattle.std.proofs.Common.{◌∙◌, ap, sym, Err}
use Rattle.c_tree.specs.Views.{nodes_of}
use Rattle.type_rules.specs.Roles.{Plain}
use Rattle.type_rules.specs.Scopes.{Scopes, at_start}
use Rattle.type_rules.specs.Ways.TablesByCase.{filled_each}
use Rattle.type_rules.specs.Ways.TypesByCase.{typed_each}
use Rattle.type_rules.proofs.Units.{same-table}
use Rattle.typed_unit.specs.Tables.{table_of}
use Rattle.unit_typing.proofs.UnitSteps.{unit-fine, unit-typed}
use Rattle.unit_typing.proofs.units.type_unit.Goals as goal

pub returns-in-Err-clause-refused : goal.returns-in-Err-clause-refused
returns-in-Err-clause-refused c f k =
    let unit = nodes_of c.args.unit.chunks in
    c.units_by_case.ensures unit (Err f) (sym (ap (λ (v : Scopes). typed_each v Plain unit) c.new-scopes.ensures) ∙ c.in-Err.ensures.gives f k)

pub new-requires-clause-typing : goal.new-requires-clause-typing
new-requires-clause-typing c =
    let unit = nodes_of c.args.unit.chunks in
    unit-typed unit c.args.unit.tokens.now (table_of c.type_definitions.new.table) _ c.units_by_case.ensures c.numbers_differ.ensures c.requires.standing
    (sym (ap (λ (v : Scopes). typed_each v Plain unit) c.new-scopes.ensures) ∙ c.in-Ok.ensures.gives)
    (c.in-Ok.ensures.table ∙ ap (λ (v : Scopes). filled_each v Plain unit (table_of c.new-table.result)) c.new-scopes.ensures ∙ ap (filled_each at_start Plain unit) c.new-table.ensures)

pub returns-clause-fine : goal.returns-clause-fine
returns-clause-fine c =
    let unit = nodes_of c.args.unit.chunks in
    unit-fine unit c.args.unit.tokens.now _ c.units_by_case.ensures c.numbers_differ.ensures c.requires.standing
    (sym (ap (λ (v : Scopes). typed_each v Plain unit) c.new-scopes.ensures) ∙ c.in-Ok.ensures.gives)

pub returns-clause-table : goal.returns-clause-table
returns-clause-table c =
    let unit = nodes_of c.args.unit.chunks in
    ap table_of c.new.ensures.table ∙ c.in-Ok.ensures.table ∙ ap (λ (v : Scopes). filled_each v Plain unit (table_of c.new-table.result)) c.new-scopes.ensures ∙ ap (filled_each at_start Plain unit) c.new-table.ensures ∙ sym (same-table unit)
