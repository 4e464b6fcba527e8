use Rattle.std.proofs.Common.{IsTrue}
use Rattle.path_theory.specs.Numbered.{model, origins_of, graphs_of, block_supergraph_of, objects_of}
use Rattle.path_theory.proofs.NumberedLaws.{numbered_local}
use Rattle.masked_paths.specs.Theorems.{mask_of}
use Rattle.masked_paths.proofs.MaskedTabulation.MaskedReports.{log_errors}
use Rattle.known_search.proofs.KnownEnough.Enough.{enough}
use Rattle.masked_paths.proofs.MatchedObjects.{events_cover_met}
use Rattle.masked_paths.specs.Met.{at_events}
use Rattle.known_search.proofs.known_enough.theorems.found_objects_report.Goals as goal

pub returns : goal.returns
returns k a log least =
    let s = a.search in
    log_errors (model s.checker) (origins_of s.checker) (numbered_local s.checker) (mask_of s.checker s.objects a.loose) (graphs_of s.checker a.program) s.at a.numbers log least
    (enough (model s.checker) (block_supergraph_of s.checker a.program) (origins_of s.checker) s.at (λ f o. IsTrue (s.is_bound f o)) (λ f b o. IsTrue (s.moves f b o)) (λ k f o h c. IsTrue (s.enters k f o h c)) (λ k h d f o. IsTrue (s.hands k h d f o))
    (at_events (model s.checker) (block_supergraph_of s.checker a.program)) a.describes (λ f w o. IsTrue (s.found f w o)) s.closed (objects_of s.checker s.objects) s.followed (numbered_local s.checker) (events_cover_met (model s.checker) (block_supergraph_of s.checker a.program)))
