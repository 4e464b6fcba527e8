-- Sets of lists of items.
use Rattle.std.specs.Prelude.{◌≡◌, List, [], ◌∷◌, ◌++◌, ◌⊎◌}
use Rattle.flow_graph.specs.CPaths.Events.{Item}

-- nothing
abbrev pub Nothing : List Item → Type 0
Nothing l = l ≡ []

-- one item alone
abbrev pub Only : Item → List Item → Type 0
Only i l = l ≡ i ∷ []

-- a list of the first, and then one of the second
abbrev pub Then : (List Item → Type 0) → (List Item → Type 0) → List Item → Type 0
Then A B l = (x y : List Item) × A x × B y × (l ≡ x ++ y)

-- a list of the first or of the second
abbrev pub Either : (List Item → Type 0) → (List Item → Type 0) → List Item → Type 0
Either A B l = A l ⊎ B l
