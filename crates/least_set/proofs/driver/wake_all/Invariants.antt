use Rattle.std.proofs.Common.{take}
use Rattle.least_set.specs.Logs.{Adds, SomeGives}
use Rattle.least_set.specs.TwoPremises.{Met}
use Rattle.least_set.proofs.driver.wake_all.Given as goal

-- the waiters that were gone through have been answered
abbrev pub invariant-loop-waiter : goal.invariant-loop-waiter
invariant-loop-waiter g l = Adds (SomeGives (λ w. Met (g.R.CachingRules.wakes (g.R.CachingRules.source l.rules)) (g.L.Log.keys l.fn.log) w l.end) (take l.waiter-index l.waiters)) (g.L.Log.keys l.fn.log) (g.L.Log.keys l.log)
