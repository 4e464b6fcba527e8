use Rattle.type_rules.specs.Moves.{opened}
use Rattle.type_rules.specs.Parts.{part}
use Rattle.type_rules.specs.Roles.{given}
use Rattle.typed_unit.specs.UnitPlaces.Standing.{followed}
use Rattle.typed_unit.proofs.UnitPlaces.Visited.{parts-visited, split}
use Rattle.typed_unit.proofs.unit_places.theorems.parts_stand.Goals as goal

pub returns : goal.returns
returns c unit v r i p s before slot e behind h =
    split unit (given v r) (opened v r s) before slot e behind (parts-visited unit v r i p s (followed before (part slot e behind)) h)
