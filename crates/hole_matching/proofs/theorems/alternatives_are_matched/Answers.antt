use Rattle.hole_matching.proofs.Alternatives.{alternative-sound, alternative-complete}
use Rattle.hole_matching.proofs.theorems.alternatives_are_matched.Goals as goal

pub returns : goal.returns
returns c g items s b = (alternative-sound g items s b, alternative-complete g items s b)
