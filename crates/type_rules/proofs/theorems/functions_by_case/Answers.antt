use Rattle.type_rules.specs.Scopes.{at_start}
use Rattle.type_rules.proofs.Functions.{each-defined, structs-scoped}
use Rattle.type_rules.proofs.theorems.functions_by_case.Goals as goal

pub returns : goal.returns
returns c unit = (each-defined at_start unit, structs-scoped unit)
