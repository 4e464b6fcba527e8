use Rattle.std.proofs.Common.{◌≡◌, map, take}
use Rattle.known_objects.proofs.pairs.entries.Given as goal
use Rattle.known_objects.specs.Linked.{entry_at}

-- those that were gone through
abbrev pub invariant-loop-object : goal.invariant-loop-object
invariant-loop-object l = l.list.items ≡ map (entry_at l.call) (take l.object-index l.objects)
