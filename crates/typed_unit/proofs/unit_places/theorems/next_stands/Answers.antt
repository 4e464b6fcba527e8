use Rattle.typed_unit.proofs.UnitPlaces.Lists.{next-stands}
use Rattle.typed_unit.proofs.unit_places.theorems.next_stands.Goals as goal

pub returns : goal.returns
returns c unit v r items i default h k = next-stands unit v r items i default h k
