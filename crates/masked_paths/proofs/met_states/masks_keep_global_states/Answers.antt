use Rattle.path_theory.specs.Numbered.{model, origins_of, supergraph_of}
use Rattle.masked_paths.specs.Theorems.{mask_of}
use Rattle.masked_paths.proofs.SameGlobals.{masked_global, unmasked_global}
use Rattle.masked_paths.proofs.met_states.masks_keep_global_states.Goals as goal

pub returns : goal.returns
returns k c p a loose = record {
  masks = λ f is_root place below path. masked_global (model c) (origins_of c) (mask_of c a loose) (supergraph_of c p) path;
  unmasks = λ f is_root place below path. unmasked_global (model c) (origins_of c) (mask_of c a loose) (supergraph_of c p) path;
}
