-- The latest of several entries with one name.
use Rattle.std.specs.Prelude.{ℕ, List, [], ◌∷◌, Option, None, Some, cond, nat_eq}
use Rattle.type_rules.specs.Options.{or_else}

abbrev pub latest_by : {T : Type 0} → (T → ℕ) → ℕ → List T → Option T
latest_by name_of n [] = None
latest_by name_of n (k ∷ ks) = or_else (latest_by name_of n ks) (cond (nat_eq (name_of k) n) (Some k) None)
