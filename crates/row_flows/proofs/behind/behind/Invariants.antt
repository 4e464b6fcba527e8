use Rattle.std.proofs.Common.{◌≡◌, map, take}
use Rattle.row_flows.specs.Behind.{chosen}
use Rattle.row_flows.proofs.behind.behind.Given as goal

-- the tuples that were gone through
abbrev pub invariant-loop-tuple : goal.invariant-loop-tuple
invariant-loop-tuple l = l.list.items ≡ map (chosen l.row l.is_root l.own l.next) (take l.tuple-index l.tuple-items)
