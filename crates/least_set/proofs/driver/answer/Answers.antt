use Rattle.std.proofs.Common.{◌<◌, arith, length, get_or}
use Rattle.std.proofs.lemmas.List.Elements.{Contains-get_or}
use Rattle.least_set.specs.Logs.{Adds, SomeGives}
use Rattle.least_set.specs.TwoPremises.{Met}
use Rattle.least_set.proofs.Growing.{adds_nothing, adds_next, all_of, not_shorter}
use Rattle.least_set.proofs.Meeting.{met_before}
use Rattle.least_set.proofs.driver.answer.Goals as goal

pub loop-end-init : goal.loop-end-init
loop-end-init g c = adds_nothing (Met (g.R.CachingRules.wakes (g.R.CachingRules.source c.args.rules.now)) (g.L.Log.keys c.args.log.now) c.args.waiter.now) (g.L.Log.keys c.args.log.now)

pub combine-requires : goal.combine-requires
combine-requires g c =
    let i = c.loop-end.end-index in
    let h : get_or c.args.ends.now i 0 < length (g.L.Log.keys c.args.log.now) = c.requires (get_or c.args.ends.now i 0) (Contains-get_or c.args.ends.now i 0 c.loop-end-test.true) in
    omega (arith, h, not_shorter c.loop-end.invariant)

pub loop-end-preserved : goal.loop-end-preserved
loop-end-preserved g c =
    let wakes = g.R.CachingRules.wakes (g.R.CachingRules.source c.args.rules.now) in
    let xs = c.args.ends.now in
    let i = c.loop-end.end-index in
    let h : get_or xs i 0 < length (g.L.Log.keys c.args.log.now) = c.requires (get_or xs i 0) (Contains-get_or xs i 0 c.loop-end-test.true) in
    adds_next (Met wakes (g.L.Log.keys c.args.log.now) c.args.waiter.now) xs i 0 c.loop-end-test.true c.loop-end.invariant
    (met_before wakes c.args.waiter.now (get_or xs i 0) c.loop-end.invariant h c.in_ok-combine.ensures)

pub returns : goal.returns
returns g c = all_of (λ l. Adds (SomeGives (Met (g.R.CachingRules.wakes (g.R.CachingRules.source c.args.rules.now)) (g.L.Log.keys c.args.log.now) c.args.waiter.now) l) (g.L.Log.keys c.args.log.now) (g.L.Log.keys c.loop-end.log))
    c.args.ends.now c.loop-end.end-index c.loop-end-test.false c.loop-end.auto.end-index-end c.loop-end.invariant
