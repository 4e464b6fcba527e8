-- How many names a numbering has: all its numbers fit.
use Rattle.std.specs.Prelude.{ℕ, Bool, true, nat_le, ◌&&◌, List, [], ◌∷◌, length}
use Rattle.metal_tree.specs.declared.states.States.{States}

abbrev pub are_few : List States → Bool
are_few [] = true
are_few (s ∷ ss) = nat_le (length s.names.now) 3000 && are_few ss

-- a rule mentions three states at most
abbrev pub is_small : List ℕ → List ℕ → List States → Bool
is_small holes globals states = nat_le (length holes) 16 && nat_le (length globals) 3000 && are_few states
