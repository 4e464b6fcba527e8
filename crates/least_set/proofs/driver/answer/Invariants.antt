use Rattle.std.proofs.Common.{take}
use Rattle.least_set.specs.Logs.{Adds, SomeGives}
use Rattle.least_set.specs.TwoPremises.{Met}
use Rattle.least_set.proofs.driver.answer.Given as goal

-- the ends that were gone through have answered
abbrev pub invariant-loop-end : goal.invariant-loop-end
invariant-loop-end g l = Adds (SomeGives (Met (g.R.CachingRules.wakes (g.R.CachingRules.source l.rules)) (g.L.Log.keys l.fn.log) l.waiter) (take l.end-index l.ends)) (g.L.Log.keys l.fn.log) (g.L.Log.keys l.log)
