use Rattle.std.proofs.Common.{sym, subst}
use Rattle.function_tables.specs.EngineTables.Known.{objects_in}
use Rattle.numbered_program.proofs.KnownBeginnings.{all_once, rows_are}
use Rattle.numbered_program.specs.Numbered.{AreNumbered}
use Rattle.numbered_program.proofs.program.program_rows.Goals as goal

pub returns-clause-rows : goal.returns-clause-rows
returns-clause-rows c = λ known.
    let t = c.args.tables.now in
    let states = c.args.states.now.states.keys in
    let are = subst (AreNumbered states (objects_in t)) (sym c.as_slice-numbers.ensures.value) c.in_ok-made.ensures in
    ∣ rows_are t states c.as_slice-numbers.result.now known are (record { functions = c.in_ok-functions.functions; begun = c.in_ok-begun.begun }) (c.in_ok-functions.ensures states known are c.in_ok-roots.ensures)
    c.in_ok-begun.ensures ∣₁

pub returns-clause-once : goal.returns-clause-once
returns-clause-once c = λ n os e. all_once c.args.tables.now c.args.states.now.states.keys c.in_ok-made.made.items c.in_ok-made.ensures n os e
