use Rattle.std.proofs.Common.{ℕ, take, Contains}
use Rattle.row_flows.proofs.concerned_objects.distinct.Given as goal

-- the numbers that were gone through are there
abbrev pub invariant-loop-number : goal.invariant-loop-number
invariant-loop-number l = (n : ℕ) → Contains (take l.number-index l.numbers) n → Contains l.set.keys n
