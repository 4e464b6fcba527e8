use Rattle.masked_paths.proofs.Example.{enough_not_closed}
use Rattle.masked_paths.proofs.theorems.enough_need_not_be_closed.Goals as goal

pub returns : goal.returns
returns c = enough_not_closed
