-- The rules of a machine by their numbers.
use Rattle.std.specs.Prelude.{ℕ, nat_eq, List, [], ◌∷◌, slice_get, cond, Option, None, Some}
use Rattle.metal_tree.specs.MetalMachines.Machine.{Item, Rule}

-- the rule of this number
abbrev pub rule_numbered : ℕ → List Rule → Option Rule
rule_numbered number [] = None
rule_numbered number (r ∷ rs) = cond (nat_eq r.number number) (Some r) (rule_numbered number rs)

abbrev pub alternative_of : Option Rule → ℕ → Option (List Item)
alternative_of None k = None
alternative_of (Some r) k = slice_get r.alternatives k

-- an alternative of the rule of this number, from 0 on
abbrev pub alternative_numbered : List Rule → ℕ → ℕ → Option (List Item)
alternative_numbered rs number k = alternative_of (rule_numbered number rs) k
