use Rattle.path_examples.proofs.Computed.{back_is_path, double_lock}
use Rattle.path_examples.proofs.log.reports_by_computation.Goals as goal

pub returns-clause-reported : goal.returns-clause-reported
returns-clause-reported c = double_lock

pub returns-clause-path : goal.returns-clause-path
returns-clause-path c = back_is_path
