use Rattle.least_set.proofs.Growing.{once}
use Rattle.numbered_program.proofs.NumberedTuples.FewStates.{state_itself}
use Rattle.state_tuples.specs.Ways.Equality.{states_agree}
use Rattle.numbered_program.proofs.numbered_tuples.object_states.ObjectStates.are_distinct.Goals as goal

pub returns : goal.returns
returns c = once states_agree state_itself c.args.self.now.states.keys c.len-count.ensures.unique
