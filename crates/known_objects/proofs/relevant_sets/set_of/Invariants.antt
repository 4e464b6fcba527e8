use Rattle.std.proofs.Common.{take}
use Rattle.known_objects.proofs.SetSteps.{HasExactly}
use Rattle.known_objects.proofs.relevant_sets.set_of.Given as goal

-- those that were gone through
abbrev pub invariant-loop-object : goal.invariant-loop-object
invariant-loop-object l = HasExactly l.set.keys (take l.object-index l.objects)
