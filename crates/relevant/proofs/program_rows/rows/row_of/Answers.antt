use Rattle.relevant.specs.ProgramRows.Filing.{MeetsAt}
use Rattle.relevant.proofs.ProgramRows.MadeRows.{calls-at}
use Rattle.relevant.proofs.program_rows.rows.row_of.Goals as goal
use Rattle.std.proofs.Common.{sym, subst}
use Rattle.least_set.specs.Logs.{IsExactly}

pub returns : goal.returns
returns c =
    let calls = c.args.calls.now in
    let n = c.args.number in
    let filed = subst (λ ps. IsExactly ps (MeetsAt calls n)) (sym c.positions_at.ensures) (c.requires.filed n c.requires.there) in
    record {
      unit = c.unit_of-unit.ensures;
      events = c.in_ok-events.ensures;
      calls = calls-at calls n c.positions_at.result.now c.in_ok-calls.calls.items filed c.in_ok-calls.ensures;
    }
