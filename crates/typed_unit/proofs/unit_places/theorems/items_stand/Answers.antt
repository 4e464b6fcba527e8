use Rattle.typed_unit.proofs.UnitPlaces.Lists.{items-stand}
use Rattle.typed_unit.proofs.unit_places.theorems.items_stand.Goals as goal

pub returns : goal.returns
returns c unit v r items i default h k = items-stand unit v r items i default h k
