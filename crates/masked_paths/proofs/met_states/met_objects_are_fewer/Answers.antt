use Rattle.masked_paths.proofs.MetExample.{enough_where_met}
use Rattle.masked_paths.proofs.met_states.met_objects_are_fewer.Goals as goal

pub returns : goal.returns
returns c = enough_where_met
