use Rattle.typed_unit.proofs.UnitPlaces.ByCase.{by-case}
use Rattle.typed_unit.proofs.unit_places.theorems.parts_stand_by_case.Goals as goal

pub returns : goal.returns
returns c unit v r i p s h = by-case unit v r i p s h
