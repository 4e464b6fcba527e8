-- These theorems as statements, which contracts can name.
use Rattle.std.specs.Prelude.{◌≡◌, ℕ, List, ◌∷◌}
use Rattle.c_tree.specs.declared.place.Place.{Place}
use Rattle.c_tree.specs.declared.token.Token.{Token}
use Rattle.c_tree.specs.Node.{node, Shape}
use Rattle.c_grammar.specs.CPlaces.Lines.{Line, line_of}
use Rattle.c_grammar.specs.CPlaces.Stands.{Stands, numbers_of, Rises}

-- The numbers of the nodes of a line that stands over tokens, be it that of a tree or of trees in a row, go up in the order in
-- which the nodes end: no two are equal.
abbrev pub NumbersRise : Type 0
NumbersRise = (l : Line) (low high : ℕ) (ts rest : List Token) → Stands l low high ts rest → Rises low (numbers_of l) high

-- The place that a node keeps is that of its first token.
abbrev pub PlacesAreFirst : Type 0
PlacesAreFirst = (id : ℕ) (first : Place) (shape : Shape) (low high : ℕ) (t : Token) (ts rest : List Token)
    → Stands (line_of (node id first shape)) low high (t ∷ ts) rest → first ≡ t.place
