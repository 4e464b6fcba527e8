use Rattle.std.proofs.Common.{false, refl}
use Rattle.path_theory.specs.Numbered.{model, origins_of}
use Rattle.masked_paths.specs.Theorems.{mask_of}
use Rattle.masked_paths.proofs.StrictFlows.Among.{crossing_among, shows_among, call_among, return_among}
use Rattle.masked_paths.proofs.strict_flows.theorems.strict_flows_ask_lists.Goals as goal

pub returns : goal.returns
returns k c a f h here there same same_there = record {
  crosses = λ is_root es g i t u. crossing_among (model c) (origins_of c) (mask_of c a false) refl f h here there same same_there is_root es g i t u;
  shows = λ is_root r es g t. shows_among (model c) (origins_of c) (mask_of c a false) refl f h here there same same_there is_root r es g t;
  calls = λ s t u. call_among (model c) (origins_of c) (mask_of c a false) refl f h here there same same_there s t u;
  returns = λ s t u. return_among (model c) (origins_of c) (mask_of c a false) refl f h here there same same_there s t u;
}
