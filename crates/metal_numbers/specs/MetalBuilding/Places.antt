-- Rules stand in a file.
use Rattle.std.specs.Prelude.{◌≡◌, ℕ, List, [], ◌∷◌}
use Rattle.metal_tree.specs.declared.rules.Rule.{Rule}

-- Each rule stands in this file.
abbrev pub HasPlaces : ℕ → List Rule → Type 0
HasPlaces file [] = Unit {0}
HasPlaces file (r ∷ rs) = (r.place.file ≡ file) × HasPlaces file rs
