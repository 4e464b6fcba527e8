use Rattle.std.proofs.Common.{sym, subst, Contains, ◌∙◌}
use Rattle.least_set.specs.Logs.{IsExactly}
use Rattle.numbered_engine.proofs.Given.{ended_there, led_exactly, waiting_exactly}
use Rattle.numbered_engine.specs.Following.{led}
use Rattle.numbered_engine.specs.Waiting.{waiting}
use Rattle.numbered_engine.proofs.engine.given_by.Goals as goal

pub returns-clause-goes : goal.returns-clause-goes
returns-clause-goes c =
    let p = c.args.program.now in
    let e = c.args.edge.now in
    subst (λ l. IsExactly l (Contains (led p e))) (sym c.in_ok-next.ensures)
    (led_exactly p e c.args.function.now c.args.block.now c.requires.function c.requires.block c.args.tuples.now c.requires.tuples)

pub returns-clause-waits : goal.returns-clause-waits
returns-clause-waits c =
    let p = c.args.program.now in
    let e = c.args.edge.now in
    subst (λ l. IsExactly l (Contains (waiting p e))) (sym c.in_ok-waits.ensures)
    (waiting_exactly p e c.args.function.now c.args.block.now c.requires.function c.requires.block c.args.tuples.now c.requires.tuples)

pub returns-clause-ends : goal.returns-clause-ends
returns-clause-ends c = c.ended-end.ensures ∙ sym (ended_there c.args.program.now c.args.edge.now c.args.function.now c.args.block.now c.requires.function c.requires.block)
