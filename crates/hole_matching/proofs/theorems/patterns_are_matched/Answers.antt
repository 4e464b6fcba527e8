use Rattle.hole_matching.proofs.Alternatives.{pattern-sound, pattern-complete}
use Rattle.hole_matching.proofs.theorems.patterns_are_matched.Goals as goal

pub returns : goal.returns
returns c g p s b = (pattern-sound g p s b, pattern-complete g p s b)
