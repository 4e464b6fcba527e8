use Rattle.std.proofs.Common.{◌≡◌, ◌++◌, map, take}
use Rattle.numbered_engine.specs.Waiting.{waits_for}
use Rattle.numbered_engine.proofs.waiting.add_for.Given as goal

-- the tuples that were gone through
abbrev pub invariant-loop-tuple : goal.invariant-loop-tuple
invariant-loop-tuple l = l.list.items ≡ l.initial.list.items ++ map (waits_for l.edge l.call) (take l.tuple-index l.entries)
