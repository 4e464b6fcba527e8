use Rattle.path_edges.proofs.MetStates.{edges-meet}
use Rattle.path_edges.proofs.theorems.empty_edges_meet.Goals as goal

pub returns : goal.returns
returns k c ts gs are lists none log closed = ∣ edges-meet c ts gs lists log closed ∣₁
