use Rattle.std.proofs.Common.{◌≡◌, map, take}
use Rattle.numbered_engine.specs.Following.{at}
use Rattle.numbered_engine.proofs.waiting.woken.Given as goal

-- the tuples that were gone through
abbrev pub invariant-loop-tuple : goal.invariant-loop-tuple
invariant-loop-tuple l = l.list.items ≡ map (λ t. at l.waiter.context t l.call.behind) (take l.tuple-index l.tuple-items)
