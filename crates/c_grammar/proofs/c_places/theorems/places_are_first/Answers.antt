use Rattle.c_grammar.specs.CPlaces.Lines.{shape_line, numbered}
use Rattle.c_grammar.proofs.CPlaces.Places.{first_place}
use Rattle.c_grammar.proofs.c_places.theorems.places_are_first.Goals as goal

pub returns : goal.returns
returns c id first shape low high t ts rest h = first_place first (shape_line shape) (numbered id) low high t ts rest h
