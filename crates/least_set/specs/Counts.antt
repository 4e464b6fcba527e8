-- What is counted, one member after the other.
use Rattle.std.specs.Prelude.{ℕ, List, [], ◌∷◌}

-- the number when each of a list was counted
abbrev pub counted_by : {M : Type 0} → (M → ℕ → ℕ) → List M → ℕ → ℕ
counted_by count [] n = n
counted_by count (e ∷ es) n = counted_by count es (count e n)
