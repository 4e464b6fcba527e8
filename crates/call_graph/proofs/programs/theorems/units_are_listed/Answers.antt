use Rattle.call_graph.proofs.OfPrograms.Listed.{listed}
use Rattle.call_graph.proofs.programs.theorems.units_are_listed.Goals as goal

pub returns : goal.returns
returns c = listed
