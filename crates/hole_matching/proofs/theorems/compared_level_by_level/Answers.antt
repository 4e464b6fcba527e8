use Rattle.hole_matching.proofs.Levels.{level}
use Rattle.hole_matching.proofs.MatchExamples.{star_over_star}
use Rattle.hole_matching.proofs.TypeExamples.{pointer_pointer}
use Rattle.hole_matching.proofs.theorems.compared_level_by_level.Goals as goal

pub returns : goal.returns
returns c u s = let a = star_over_star in let b = pointer_pointer in level u s
