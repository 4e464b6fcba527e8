use Rattle.typed_unit.proofs.UnitPlaces.Steps.{trees-stand}
use Rattle.typed_unit.proofs.unit_places.theorems.trees_stand.Goals as goal

pub returns : goal.returns
returns c unit = trees-stand unit
