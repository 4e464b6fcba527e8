-- Declared names with their positions, as they are kept.
use Rattle.std.specs.Prelude.{ℕ, ◌+◌, List, [], ◌∷◌}
use Rattle.metal_numbers.specs.declared.metal_declared.limits.Declared.{Declared}

abbrev pub declared_name : Declared → ℕ
declared_name d = d.name

abbrev pub declared_pair : Declared → ℕ × ℕ
declared_pair d = (d.name, d.position)

-- names with a symbol between two of them
abbrev pub every_other : ℕ → List ℕ → List (ℕ × ℕ)
every_other position [] = []
every_other position (name ∷ names) = (name, position) ∷ every_other (position + 2) names
