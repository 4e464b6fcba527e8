use Rattle.hole_matching.proofs.Copies.{copy}
use Rattle.hole_matching.proofs.theorems.copies_are_compared.Goals as goal

pub returns : goal.returns
returns c u e h = copy u e h
