use Rattle.std.proofs.Common.{length, sym, ◌∙◌, subst}
use Rattle.relevant.specs.ProgramRows.Filing.{IsFiled}
use Rattle.relevant.specs.ProgramRows.Made.{AreMade}
use Rattle.relevant.proofs.ProgramRows.RightRows.{right-rows}
use Rattle.relevant.proofs.program_rows.rows.rows_of.Goals as goal
use Rattle.call_graph.specs.OfPrograms.Definitions.{definitions, trees_in}
use Rattle.relevant.proofs.RelevantObjects.Gathered.{if-both}

pub rows_from-requires : goal.rows_from-requires
rows_from-requires c =
    let count = length (definitions (trees_in c.args.program.now.units.items)) in
    let positions = c.in_ok-positions.positions.items in
    let same = c.as_slice.ensures.value ∙ sym c.as_slice-2.ensures.value in
    let filed = subst (λ n. IsFiled c.as_slice.result.now n positions) c.count.ensures c.in_ok-positions.ensures in
    subst (λ lists. IsFiled c.as_slice-2.result.now count lists) (sym c.as_slice-3.ensures.value) (subst (λ calls. IsFiled calls count positions) same filed)

pub returns : goal.returns
returns c =
    let units = c.args.program.now.units.items in
    let tables = c.args.tables.now in
    let calls = c.in_ok-calls in
    if-both _ _ _ c.rows_from.result
    (λ rows count made k are. right-rows k units tables are calls.calls.items calls.ensures.calls calls.ensures.sites rows.items count (subst (λ list. AreMade units tables list rows.items) c.as_slice-2.ensures.value made))
    c.rows_from.ensures.count c.rows_from.ensures.made
