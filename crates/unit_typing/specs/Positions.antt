-- Lists by number, in a map.
use Rattle.std.specs.Prelude.{ℕ, List, [], Vec, Option, None, Some, nat_eq}
use Rattle.indexmap.specs.IndexMap.{IndexMap, get}

abbrev pub items_of : {A : Type 0} → Option (Vec ℕ A) → List ℕ
items_of None = []
items_of (Some v) = v.items

-- the list of a number, and the empty one if it has none
abbrev pub list_at : {A S : Type 0} → IndexMap ℕ (Vec ℕ A) S → ℕ → List ℕ
list_at lists n = items_of (get nat_eq lists n)
