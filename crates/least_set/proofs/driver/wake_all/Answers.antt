use Rattle.std.proofs.Common.{subst}
use Rattle.least_set.specs.Logs.{Adds, SomeGives}
use Rattle.least_set.specs.TwoPremises.{Met}
use Rattle.least_set.proofs.Growing.{adds_nothing, adds_next, all_of}
use Rattle.least_set.proofs.Meeting.{met_before}
use Rattle.least_set.proofs.driver.wake_all.Goals as goal

pub loop-waiter-init : goal.loop-waiter-init
loop-waiter-init g c = adds_nothing (λ w. Met (g.R.CachingRules.wakes (g.R.CachingRules.source c.args.rules.now)) (g.L.Log.keys c.args.log.now) w c.args.end) (g.L.Log.keys c.args.log.now)

pub loop-waiter-preserved : goal.loop-waiter-preserved
loop-waiter-preserved g c =
    let wakes = g.R.CachingRules.wakes (g.R.CachingRules.source c.args.rules.now) in
    let old = g.L.Log.keys c.args.log.now in
    let d = c.waiter-item.result in
    let step = met_before wakes d c.args.end c.loop-waiter.invariant c.requires c.in_ok-combine.ensures in
    adds_next (λ w. Met wakes old w c.args.end) c.args.waiters.now c.loop-waiter.waiter-index d c.loop-waiter-test.true c.loop-waiter.invariant
    (subst (λ w. Adds (Met wakes old w c.args.end) (g.L.Log.keys c.loop-waiter.log) (g.L.Log.keys c.combine.new.log)) c.waiter-item.is step)

pub returns : goal.returns
returns g c = all_of (λ l. Adds (SomeGives (λ w. Met (g.R.CachingRules.wakes (g.R.CachingRules.source c.args.rules.now)) (g.L.Log.keys c.args.log.now) w c.args.end) l) (g.L.Log.keys c.args.log.now) (g.L.Log.keys c.loop-waiter.log))
    c.args.waiters.now c.loop-waiter.waiter-index c.loop-waiter-test.false c.loop-waiter.auto.waiter-index-end c.loop-waiter.invariant
