use Rattle.std.proofs.Common.{◌≡◌, take}
use Rattle.std.specs.Prelude.{flat_map}
use Rattle.row_flows.specs.Behind.{behind}
use Rattle.row_flows.proofs.crossing.all_behind.Given as goal

-- those of the tuples that were gone through
abbrev pub invariant-loop-tuple : goal.invariant-loop-tuple
invariant-loop-tuple l = l.list.items ≡ flat_map (behind l.row l.is_root l.own) (take l.tuple-index l.tuples)
