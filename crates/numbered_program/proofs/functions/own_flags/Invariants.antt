use Rattle.std.proofs.Common.{◌≡◌, take}
use Rattle.numbered_program.specs.NumberedEvents.Listed.{own_of}
use Rattle.numbered_program.proofs.functions.own_flags.Given as goal

-- of the objects that were gone through
abbrev pub invariant-loop-object : goal.invariant-loop-object
invariant-loop-object l = l.flags.items ≡ own_of (take l.object-index l.objects)
