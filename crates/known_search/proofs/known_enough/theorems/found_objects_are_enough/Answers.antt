use Rattle.std.proofs.Common.{IsTrue}
use Rattle.path_theory.specs.Numbered.{model, origins_of, supergraph_of, objects_of}
use Rattle.path_theory.proofs.NumberedLaws.{numbered_local}
use Rattle.known_search.proofs.KnownEnough.Enough.{enough}
use Rattle.masked_paths.proofs.MatchedObjects.{events_cover_met}
use Rattle.masked_paths.specs.Met.{at_events}
use Rattle.known_search.proofs.known_enough.theorems.found_objects_are_enough.Goals as goal

pub returns : goal.returns
returns k s p describes = enough (model s.checker) (supergraph_of s.checker p) (origins_of s.checker) s.at (λ f o. IsTrue (s.is_bound f o)) (λ f b o. IsTrue (s.moves f b o)) (λ k f o h c. IsTrue (s.enters k f o h c)) (λ k h d f o. IsTrue (s.hands k h d f o))
    (at_events (model s.checker) (supergraph_of s.checker p)) describes (λ f w o. IsTrue (s.found f w o)) s.closed (objects_of s.checker s.objects) s.followed (numbered_local s.checker) (events_cover_met (model s.checker) (supergraph_of s.checker p))
