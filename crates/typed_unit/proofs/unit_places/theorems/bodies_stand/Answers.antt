use Rattle.type_rules.specs.Scopes.{at_start}
use Rattle.typed_unit.proofs.UnitPlaces.Functions.{all-defined, body-stands}
use Rattle.typed_unit.proofs.UnitPlaces.Steps.{trees-stand}
use Rattle.typed_unit.proofs.unit_places.theorems.bodies_stand.Goals as goal

pub returns : goal.returns
returns c unit = λ k f h. body-stands unit _ (all-defined unit at_start unit (trees-stand unit) k f h)
