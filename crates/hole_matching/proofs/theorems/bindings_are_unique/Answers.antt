use Rattle.hole_matching.proofs.Alternatives.{one-match}
use Rattle.hole_matching.proofs.CalloutExamples.{const_number}
use Rattle.hole_matching.proofs.MessageExamples.{by_object}
use Rattle.hole_matching.proofs.theorems.bindings_are_unique.Goals as goal

pub returns : goal.returns
returns c g items s b d h k = let x = const_number in let y = by_object in one-match g items s b d h k
