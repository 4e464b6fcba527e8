use Rattle.std.proofs.Common.{◌≡◌, length, map, take}
use Rattle.known_objects.proofs.FunctionSets.{AreEachDistinct}
use Rattle.known_objects.proofs.sets.sets_of.Given as goal
use Rattle.known_objects.specs.ByFunction.{AreSets}

-- those before this one stand in their sets
abbrev pub invariant-loop-member : goal.invariant-loop-member
invariant-loop-member l = record {
  count : length l.sets.items ≡ l.count;
  sets : AreSets (take l.member-index l.found) (map (λ s. s.keys) l.sets.items);
  distinct : AreEachDistinct (map (λ s. s.keys) l.sets.items);
}
