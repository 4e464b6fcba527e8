use Rattle.event_places.proofs.Spelling.{tree-spelled}
use Rattle.event_places.proofs.theorems.trees_are_spelled_by_their_tokens.Goals as goal

pub returns : goal.returns
returns c w file n before ts rest low high placed whole stands = tree-spelled w file n before ts rest low high placed whole stands
