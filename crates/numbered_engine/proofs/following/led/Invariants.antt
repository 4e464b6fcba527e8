use Rattle.std.proofs.Common.{◌≡◌, take}
use Rattle.std.specs.Prelude.{flat_map}
use Rattle.numbered_engine.specs.Following.{led_from}
use Rattle.numbered_engine.proofs.following.led.Given as goal

-- the tuples that were gone through
abbrev pub invariant-loop-tuple : goal.invariant-loop-tuple
invariant-loop-tuple l = l.list.items ≡ flat_map (led_from l.context l.ending) (take l.tuple-index l.tuples)
