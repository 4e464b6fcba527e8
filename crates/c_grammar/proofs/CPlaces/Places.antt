-- The place that a node keeps is that of the token in front.
use Rattle.std.proofs.Common.{◌≡◌, ℕ, List, ◌∷◌, refl}
use Rattle.c_tree.specs.declared.place.Place.{Place}
use Rattle.c_tree.specs.declared.token.Token.{Token}
use Rattle.c_grammar.specs.CPlaces.Lines.{Line, at, ◌⨾◌}
use Rattle.c_grammar.specs.CPlaces.Stands.{Stands, OfPlace, OfBoth}

at_first : (first : Place) (low high : ℕ) (t : Token) (ts rest : List Token) → Stands (at first) low high (t ∷ ts) rest → first ≡ t.place
at_first first low high t ts rest OfPlace = refl

pub first_place : (first : Place) (l m : Line) (low high : ℕ) (t : Token) (ts rest : List Token) → Stands (at first ⨾ l ⨾ m) low high (t ∷ ts) rest → first ≡ t.place
first_place first l m low high t ts rest (OfBoth (OfBoth {middle = middle} {us = us} h _) _) = at_first first low middle t ts us h
