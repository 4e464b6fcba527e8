use Rattle.path_theory.specs.Numbered.{model, origins_of, supergraph_of, objects_of}
use Rattle.path_theory.proofs.NumberedLaws.{numbered_local}
use Rattle.path_theory.proofs.KnownObjects.{known_after, fires_after}
use Rattle.path_theory.proofs.theorems.known_objects_are_followed.Goals as goal

pub returns : goal.returns
returns k c p a closed f is_root place below path o = (
  (λ x known. known_after (model c) (supergraph_of c p) (origins_of c) (numbered_local c) (objects_of c a) closed path o x known),
  (λ e r takes. fires_after (model c) (supergraph_of c p) (origins_of c) (numbered_local c) (objects_of c a) closed path e takes.0.1 o r takes.1),
)
