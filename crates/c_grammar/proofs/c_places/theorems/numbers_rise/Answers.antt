use Rattle.c_grammar.proofs.CPlaces.Rising.{numbers}
use Rattle.c_grammar.proofs.c_places.theorems.numbers_rise.Goals as goal

pub returns : goal.returns
returns c = numbers
