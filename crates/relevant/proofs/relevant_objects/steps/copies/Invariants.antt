use Rattle.std.proofs.Common.{◌≡◌, take}
use Rattle.relevant.proofs.relevant_objects.steps.copies.Given as goal

-- those that were gone through were copied
abbrev pub invariant-loop-member : goal.invariant-loop-member
invariant-loop-member l = l.list.items ≡ take l.member-index l.members
