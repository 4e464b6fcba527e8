use Rattle.std.proofs.Common.{◌≤◌, ◌-◌, ◌^◌, ◌∙◌, arith}
use Rattle.numbered_engine.proofs.Resuming.{begun_listed, derived_alone, fresh_listed}
use Rattle.numbered_engine.proofs.Steps.{counted_fresh}
use Rattle.numbered_engine.proofs.engine.resume.Goals as goal

pub returns-clause-fresh : goal.returns-clause-fresh
returns-clause-fresh g c = λ right. fresh_listed c.args.engine.now.program.now c.args.held.entries right c.in_ok-log.log.keys c.in_ok-log.ensures.closed c.in_ok-log.ensures.only

pub returns-clause-begun : goal.returns-clause-begun
returns-clause-begun g c = λ right. begun_listed c.args.engine.now.program.now c.args.held.entries right c.in_ok-log.log.keys c.in_ok-log.ensures.closed c.in_ok-log.ensures.only

pub returns-clause-only : goal.returns-clause-only
returns-clause-only g c = λ right. derived_alone c.args.engine.now.program.now c.args.held.entries right c.in_ok-log.log.keys c.in_ok-log.ensures.closed c.in_ok-log.ensures.only

pub returns-clause-steps : goal.returns-clause-steps
returns-clause-steps g c =
    let before = c.args.engine.now.steps.count in
    let low : before ≤ 2 ^ 64 - 1 = omega (arith, c.count-before.ensures) in
    c.in_ok-log.ensures.asked ∙ counted_fresh c.args.held.entries c.in_ok-log.log.keys before low
