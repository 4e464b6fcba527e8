use Rattle.type_rules.proofs.Units.{right-at}
use Rattle.type_rules.proofs.theorems.cells_are_right.Goals as goal

pub returns : goal.returns
returns c unit table v r e t m k = right-at unit table v r e t m k
