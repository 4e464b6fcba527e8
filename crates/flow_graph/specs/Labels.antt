-- Labels with their blocks, as plain values.
use Rattle.std.specs.Prelude.{ℕ, nat_eq, List, [], Vec, map, Option, None, Some}
use Rattle.indexmap.specs.IndexMap.{IndexMap, get}
use Rattle.flow_graph.specs.CPaths.Layout as layout
use Rattle.flow_graph.specs.declared.labels.Entry.{Entry}

abbrev pub entry_in : Entry → layout.Entry
entry_in e = record { label = e.label; block = e.block }

abbrev pub entries_in : List Entry → List layout.Entry
entries_in es = map entry_in es

abbrev pub items_of : {A : Type 0} → Option (Vec ℕ A) → List ℕ
items_of None = []
items_of (Some v) = v.items

-- the blocks that the map has for a label, and none if it has no such label
abbrev pub blocks_at : {A S : Type 0} → IndexMap ℕ (Vec ℕ A) S → ℕ → List ℕ
blocks_at m label = items_of (get nat_eq m label)
