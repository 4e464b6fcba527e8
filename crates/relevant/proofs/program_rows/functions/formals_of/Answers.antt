use Rattle.std.proofs.Common.{◌≤◌, length}
use Rattle.relevant.proofs.ProgramRows.Formals.{formals-are, no-function}
use Rattle.relevant.proofs.program_rows.functions.formals_of.Goals as goal
use Rattle.call_graph.specs.OfPrograms.Definitions.{definitions, trees_in}

pub returns-then-number-count : goal.returns-then-number-count
returns-then-number-count c = λ d at.
    let function = c.function-function in
    formals-are c.args.program.now.units.items c.args.number d at function.result.now c.as_slice.result.now function.ensures.defined c.as_slice.ensures.value

pub returns-else-number-count : goal.returns-else-number-count
returns-else-number-count c = λ d at.
    let past : length (definitions (trees_in c.args.program.now.units.items)) ≤ c.args.number = rw (← c.count.ensures) c.if-number-count.false in
    no-function c.args.program.now.units.items c.args.number d at past
