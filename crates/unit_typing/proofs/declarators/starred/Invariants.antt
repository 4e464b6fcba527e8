use Rattle.std.proofs.Common.{◌≡◌, drop}
use Rattle.type_rules.specs.Declarators.{starred}
use Rattle.type_values.specs.Types.{ctype_of}
use Rattle.unit_typing.proofs.declarators.starred.Given as goal

-- the stars that are left make the same of what is found as all of them make of the type
abbrev pub invariant-loop-word : goal.invariant-loop-word
invariant-loop-word l = starred (drop l.word-index l.pointers) (ctype_of l.found) ≡ starred l.pointers (ctype_of l.ty)
