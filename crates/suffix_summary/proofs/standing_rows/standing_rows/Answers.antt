use Rattle.std.proofs.Math.Logic.{∥∥₁_map}
use Rattle.suffix_summary.proofs.StandingTables.{if-both}
use Rattle.suffix_summary.proofs.standing_rows.standing_rows.Goals as goal

pub returns : goal.returns
returns c =
    let t = c.args.tables.now in
    let states = c.in_ok-states.states.states.keys in
    if-both _ _ _ c.program_rows.result
    (λ p made once known.
    ∥∥₁_map (made known) (λ are. record {
      states = states;
      stand = c.rows_stand_for_programs.ensures t states p known (record { named = c.in_ok-states.ensures; once = c.are_distinct.ensures }) once are;
    }))
    c.program_rows.ensures.rows c.program_rows.ensures.once
