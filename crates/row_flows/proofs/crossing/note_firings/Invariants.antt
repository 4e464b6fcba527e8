use Rattle.std.proofs.Common.{◌≡◌, ◌++◌, take}
use Rattle.std.specs.Prelude.{flat_map}
use Rattle.row_flows.specs.Behind.{firings}
use Rattle.row_flows.proofs.crossing.note_firings.Given as goal

-- those of the tuples that were gone through have been noted
abbrev pub invariant-loop-tuple : goal.invariant-loop-tuple
invariant-loop-tuple l = l.list.items ≡ l.fn.list.items ++ flat_map (firings l.event l.row l.is_root l.own) (take l.tuple-index l.tuples)
