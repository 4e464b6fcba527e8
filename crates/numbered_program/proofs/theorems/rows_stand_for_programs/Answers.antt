use Rattle.numbered_program.proofs.StandingPrograms.{rows_stand}
use Rattle.numbered_program.proofs.theorems.rows_stand_for_programs.Goals as goal

pub returns : goal.returns
returns c = rows_stand
