use Rattle.std.proofs.Common.{refl}
use Rattle.numbered_program.proofs.NumberedTuples.TupleNumbers.{same_parts}
use Rattle.numbered_program.proofs.numbered_tuples.tuples.of_none.Goals as goal

pub returns : goal.returns
returns c = same_parts _ _ refl refl refl
