use Rattle.hole_matching.proofs.Copies.{same-equal}
use Rattle.hole_matching.proofs.theorems.same_trees_are_equal.Goals as goal

pub returns : goal.returns
returns c u a b h k e = same-equal u a b h k e
