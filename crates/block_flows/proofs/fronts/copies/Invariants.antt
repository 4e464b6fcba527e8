use Rattle.std.proofs.Common.{◌≡◌, take}
use Rattle.block_flows.proofs.fronts.copies.Given as goal

-- the tuples that were gone through
abbrev pub invariant-loop-tuple : goal.invariant-loop-tuple
invariant-loop-tuple l = l.list.items ≡ take l.tuple-index l.tuples
