use Rattle.std.proofs.Common.{ap, refl, Some}
use Rattle.numbered_program.proofs.NumberedTuples.TupleNumbers.{same_parts}
use Rattle.numbered_program.proofs.numbered_tuples.tuples.of_object.Goals as goal

pub returns : goal.returns
returns c = same_parts _ _ refl (ap Some c.copy.ensures) refl
