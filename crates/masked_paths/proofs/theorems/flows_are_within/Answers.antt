use Rattle.path_theory.specs.Numbered.{model, origins_of}
use Rattle.masked_paths.specs.Theorems.{mask_of}
use Rattle.masked_paths.proofs.WithinFlows.{same_crossing, same_shows}
use Rattle.masked_paths.proofs.WithinCalls.{same_call_flow, same_return_flow}
use Rattle.masked_paths.proofs.theorems.flows_are_within.Goals as goal

pub returns : goal.returns
returns k c a loose = record {
  crosses = λ f h is_root es g i t u w. same_crossing (model c) (origins_of c) (mask_of c a loose) f h is_root es g i t u w;
  shows = λ f h is_root r es g t w. same_shows (model c) (origins_of c) (mask_of c a loose) f h is_root r es g t w;
  calls = λ f h s. same_call_flow (model c) (origins_of c) (mask_of c a loose) f h s;
  returns = λ f h s. same_return_flow (model c) (origins_of c) (mask_of c a loose) f h s;
}
