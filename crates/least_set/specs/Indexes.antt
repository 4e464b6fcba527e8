-- Lists by key, in a map.
use Rattle.std.specs.Prelude.{ℕ, ◌<◌, ◌⊎◌, Bool, List, [], Vec, Contains, Option, Some, None}
use Rattle.indexmap.specs.IndexMap.{IndexMap, get}

abbrev pub items_of : {T A : Type 0} → Option (Vec T A) → List T
items_of None = []
items_of (Some v) = v.items

-- The list that the map has at a key, and the empty one if it has none.
abbrev pub at : {K T A S : Type 0} → (K → K → Bool) → IndexMap K (Vec T A) S → K → List T
at eq m k = items_of (get eq m k)

-- The lists grew by what P gives.
pub record Extends {K T : Type 0} (P : K → T → Type 0) (old new : K → List T) : Type 0 where
  pub kept : (k : K) (x : T) → Contains (old k) x → Contains (new k) x
  pub added : (k : K) (x : T) → P k x → Contains (new k) x
  pub only : (k : K) (x : T) → Contains (new k) x → Contains (old k) x ⊎ P k x

-- The lists have only numbers below n.
abbrev pub AllBelow : {K : Type 0} → ℕ → (K → List ℕ) → Type 0
AllBelow {K} n lists = (k : K) (j : ℕ) → Contains (lists k) j → j < n
