use Rattle.std.proofs.Common.{take}
use Rattle.least_set.specs.Logs.{IsExactly, SomeGives}
use Rattle.numbered_program.specs.Begun.{BeginsIn}
use Rattle.numbered_program.proofs.begun.all_begun.Given as goal

-- those of the roots that were gone through
abbrev pub invariant-loop-root : goal.invariant-loop-root
invariant-loop-root l = IsExactly l.edges.items (SomeGives (λ f. BeginsIn l.numbers f.number) (take l.root-index l.roots))
