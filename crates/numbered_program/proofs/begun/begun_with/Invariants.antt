use Rattle.least_set.specs.Logs.{IsExactly}
use Rattle.numbered_program.specs.Begun.{BeginsWith}
use Rattle.numbered_program.proofs.begun.begun_with.Given as goal

-- with the objects that were gone through
abbrev pub invariant-loop-object : goal.invariant-loop-object
invariant-loop-object l = IsExactly l.edges.items (BeginsWith l.function l.object)
