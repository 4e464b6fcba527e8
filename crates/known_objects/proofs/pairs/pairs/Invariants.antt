use Rattle.std.proofs.Common.{◌≡◌, map, take}
use Rattle.known_objects.proofs.pairs.pairs.Given as goal
use Rattle.path_model.specs.CheckerGraphs.Members.{member}

-- those that were gone through
abbrev pub invariant-loop-object : goal.invariant-loop-object
invariant-loop-object l = l.list.items ≡ map (member l.function) (take l.object-index l.objects)
