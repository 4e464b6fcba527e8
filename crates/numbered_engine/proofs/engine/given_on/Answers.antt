use Rattle.std.proofs.Common.{sym}
use Rattle.std.proofs.lemmas.Result.{IfOk-weaker}
use Rattle.numbered_engine.proofs.Resuming.{fresh_gives}
use Rattle.numbered_engine.proofs.engine.given_on.Goals as goal

pub returns-in-None-clause-goes : goal.returns-in-None-clause-goes
returns-in-None-clause-goes g c =
    let p = c.args.program.now in
    let h = c.args.held.now.entries in
    let e = c.args.edge.now in
    IfOk-weaker c.given.result _ _ (λ v exactly. fresh_gives p h e v.next.items (sym c.in-None.ensures) exactly) c.given.ensures.goes
