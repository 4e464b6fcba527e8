use Rattle.typed_unit.proofs.UnitPlaces.Typed.{expression-kept}
use Rattle.typed_unit.proofs.unit_places.theorems.expressions_are_typed.Goals as goal

pub returns : goal.returns
returns c unit v r e h k = record { stands = h; kept = expression-kept v r e k }
