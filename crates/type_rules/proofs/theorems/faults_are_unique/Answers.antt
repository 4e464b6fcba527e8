use Rattle.type_rules.proofs.Units.{one-fault}
use Rattle.type_rules.proofs.theorems.faults_are_unique.Goals as goal

pub returns : goal.returns
returns c unit a b h k = one-fault unit a b h k
