use Rattle.type_rules.proofs.Units.{typed-or-faulty}
use Rattle.type_rules.proofs.theorems.typed_or_at_fault.Goals as goal

pub returns : goal.returns
returns c unit d = typed-or-faulty unit d
