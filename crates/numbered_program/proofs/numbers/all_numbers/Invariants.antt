use Rattle.std.proofs.Common.{map, take}
use Rattle.numbered_program.specs.Numbered.{AreNumbered}
use Rattle.numbered_program.proofs.numbers.all_numbers.Given as goal

-- those of the sets that were gone through
abbrev pub invariant-loop-set : goal.invariant-loop-set
invariant-loop-set l = AreNumbered l.states.states.keys (take l.set-index (map (λ os. os.keys) l.objects)) l.list.items
