use Rattle.std.specs.Prelude.{IsTrue}
use Rattle.path_theory.specs.Numbered.{model, origins_of, supergraph_of, objects_of}
use Rattle.path_theory.proofs.Assembly.{in_context}
use Rattle.path_theory.proofs.Unchanged.{unchanged_both}
use Rattle.path_theory.proofs.theorems.unchanged_frames_stay.Goals as goal

pub returns-clause-contexts : goal.returns-clause-contexts
returns-clause-contexts k c p a f is_root g₀ t₀ m begins place g t =
    in_context (model c) (supergraph_of c p) (origins_of c) (objects_of c a) begins

pub returns-clause-frames : goal.returns-clause-frames
returns-clause-frames k c p q a b u at back same f is_root g₀ t₀ place g t n stays =
    unchanged_both (model c) (origins_of c) (supergraph_of c p) (supergraph_of c q) (objects_of c a) (objects_of c b) (λ f. IsTrue (u f))
    at back same.there same.here same.same place stays
