use Rattle.std.proofs.Common.{◌≡◌, ◌++◌, map, take}
use Rattle.numbered_engine.specs.Following.{first}
use Rattle.numbered_engine.proofs.following.add_first.Given as goal

-- the tuples that were gone through
abbrev pub invariant-loop-tuple : goal.invariant-loop-tuple
invariant-loop-tuple l = l.list.items ≡ l.initial.list.items ++ map (first l.function) (take l.tuple-index l.tuples)
