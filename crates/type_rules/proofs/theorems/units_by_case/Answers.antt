use Rattle.type_rules.proofs.Units.{unit-by-case}
use Rattle.type_rules.proofs.theorems.units_by_case.Goals as goal

pub returns : goal.returns
returns c unit found h = unit-by-case unit found h
