use Rattle.std.proofs.Common.{◌≡◌, take}
use Rattle.std.specs.Prelude.{flat_map}
use Rattle.numbered_engine.specs.Waiting.{waiting_at}
use Rattle.numbered_engine.proofs.waiting.waiting.Given as goal

-- the tuples that were gone through
abbrev pub invariant-loop-tuple : goal.invariant-loop-tuple
invariant-loop-tuple l = l.list.items ≡ flat_map (waiting_at l.edge l.ending) (take l.tuple-index l.tuples)
