use Rattle.least_set.proofs.Growing.{once}
use Rattle.numbered_program.proofs.NumberedTuples.FewStates.{state_itself}
use Rattle.state_tuples.specs.Ways.Equality.{states_agree}
use Rattle.suffix_summary.proofs.standing_rows.are_distinct.Goals as goal

pub returns : goal.returns
returns c = once states_agree state_itself c.args.states.now.states.keys c.len-count.ensures.unique
