use Rattle.path_edges.proofs.Reported.{reported}
use Rattle.path_edges.proofs.theorems.least_edges_report.Goals as goal

pub returns : goal.returns
returns c = reported
