use Rattle.type_rules.proofs.Places.{place-typed}
use Rattle.type_rules.proofs.theorems.places_are_typed.Goals as goal

pub returns : goal.returns
returns c unit v r e h m = place-typed unit v r e h m
