use Rattle.std.proofs.Common.{map, take}
use Rattle.std.specs.List.{AllZip}
use Rattle.known_objects.proofs.SetSteps.{HasExactly}
use Rattle.known_objects.proofs.relevant_sets.sets_of.Given as goal

-- those of the lists that were gone through
abbrev pub invariant-loop-list : goal.invariant-loop-list
invariant-loop-list l = AllZip HasExactly (map (λ s. s.keys) l.sets.items) (map (λ os. os.items) (take l.list-index l.lists))
