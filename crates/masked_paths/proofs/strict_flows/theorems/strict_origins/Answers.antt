use Rattle.masked_paths.proofs.StrictFlows.Among.{are_strict}
use Rattle.masked_paths.proofs.strict_flows.theorems.strict_origins.Goals as goal

pub returns : goal.returns
returns k own test z = are_strict own test z
