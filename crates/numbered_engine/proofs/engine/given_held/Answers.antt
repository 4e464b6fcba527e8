use Rattle.std.proofs.Common.{sym, subst}
use Rattle.least_set.specs.Logs.{IsExactly}
use Rattle.numbered_engine.specs.Held.{GoesOn}
use Rattle.numbered_engine.proofs.Resuming.{held_gives}
use Rattle.numbered_engine.proofs.engine.given_held.Goals as goal

pub returns-clause-goes : goal.returns-clause-goes
returns-clause-goes c =
    let p = c.args.program.now in
    let h = c.args.held.now.entries in
    let e = c.args.edge.now in
    subst (λ l. IsExactly l (GoesOn p h e)) (sym c.in_ok-passed_by.ensures) (held_gives p h e c.args.context.now c.requires.held)
