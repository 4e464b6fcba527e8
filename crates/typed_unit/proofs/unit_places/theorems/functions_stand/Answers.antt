use Rattle.type_rules.specs.Scopes.{at_start}
use Rattle.typed_unit.proofs.UnitPlaces.Functions.{all-defined}
use Rattle.typed_unit.proofs.UnitPlaces.Steps.{trees-stand}
use Rattle.typed_unit.proofs.unit_places.theorems.functions_stand.Goals as goal

pub returns : goal.returns
returns c unit = all-defined unit at_start unit (trees-stand unit)
