use Rattle.hole_matching.proofs.Closed.{equal-where-stands, stands-equal}
use Rattle.hole_matching.proofs.theorems.equal_trees_match.Goals as goal

pub returns : goal.returns
returns c g p s ts w = (equal-where-stands g p s ts w, stands-equal g p s ts w)
