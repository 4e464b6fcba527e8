use Rattle.typed_unit.proofs.UnitPlaces.Typed.{declarator-kept}
use Rattle.typed_unit.proofs.unit_places.theorems.declarators_are_typed.Goals as goal

pub returns : goal.returns
returns c unit v r e h k = record { stands = h; kept = declarator-kept v r e k }
