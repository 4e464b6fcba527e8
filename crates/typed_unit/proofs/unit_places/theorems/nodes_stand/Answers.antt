use Rattle.typed_unit.proofs.UnitPlaces.Lists.{nodes-stand}
use Rattle.typed_unit.proofs.unit_places.theorems.nodes_stand.Goals as goal

pub returns : goal.returns
returns c unit v r before e behind h = nodes-stand unit v r before e behind h
