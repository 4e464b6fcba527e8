use Rattle.std.proofs.Common.{[], map, take, Contains}
use Rattle.least_set.specs.Logs.{Adds}
use Rattle.numbered_program.proofs.functions.root_numbers.Given as goal

-- those of the roots that were gone through
abbrev pub invariant-loop-root : goal.invariant-loop-root
invariant-loop-root l = Adds (Contains (take l.root-index (map (λ f. f.number) l.roots))) [] l.set.keys
