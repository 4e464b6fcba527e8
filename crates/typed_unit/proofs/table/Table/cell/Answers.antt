use Rattle.std.proofs.Common.{◌∙◌, ap, sym, map, List, Option, None, Some}
use Rattle.std.specs.Option.{option_map}
use Rattle.type_rules.specs.Definition.{at}
use Rattle.typed_unit.specs.declared.table.Cell.{Cell}
use Rattle.typed_unit.specs.Tables.{cell_of}
use Rattle.typed_unit.proofs.Cells.{cell-at, cell-past}
use Rattle.typed_unit.proofs.table.Table.cell.Goals as goal

pub returns-in-Some-Some : goal.returns-in-Some-Some
returns-in-Some-Some c =
    sym (sym (ap (λ (cs : List (Option Cell)). at c.args.number (map (option_map cell_of) cs)) c.deref.ensures.value)
    ∙ cell-at c.deref.result.now c.args.number c.get.result c.in-Some-Some.field-0 (Some c.in-Some-Some.cell) c.get.ensures.lookup c.in-Some-Some.is c.in-Some-Some.field-0-is)

pub returns-in-Some-None : goal.returns-in-Some-None
returns-in-Some-None c =
    sym (sym (ap (λ (cs : List (Option Cell)). at c.args.number (map (option_map cell_of) cs)) c.deref.ensures.value)
    ∙ cell-at c.deref.result.now c.args.number c.get.result c.in-Some-None.field-0 None c.get.ensures.lookup c.in-Some-None.is c.in-Some-None.field-0-is)

pub returns-in-None : goal.returns-in-None
returns-in-None c =
    sym (sym (ap (λ (cs : List (Option Cell)). at c.args.number (map (option_map cell_of) cs)) c.deref.ensures.value)
    ∙ cell-past c.deref.result.now c.args.number c.get.result c.get.ensures.lookup c.in-None.is)
