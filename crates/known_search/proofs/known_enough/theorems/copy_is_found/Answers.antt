use Rattle.known_search.proofs.KnownEnough.Example as example
use Rattle.known_search.proofs.known_enough.theorems.copy_is_found.Goals as goal

pub returns : goal.returns
returns c = example.copy_is_found
