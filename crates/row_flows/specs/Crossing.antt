-- WHAT A TUPLE BECOMES OVER THE EVENTS OF A BLOCK, by their rows, and which rules with an action are taken on the way.
use Rattle.std.specs.Prelude.{ℕ, ◌+◌, Bool, List, [], ◌∷◌, ◌++◌, flat_map}
use Rattle.row_flows.specs.Behind.{behind, firings}
use Rattle.row_flows.specs.declared.behind.Firing.{Firing}
use Rattle.row_flows.specs.declared.rows.EventRow.{EventRow}
use Rattle.row_flows.specs.declared.tuples.NumberedTuple.{NumberedTuple}

-- AT THE END OF THE EVENTS
abbrev pub ends : List EventRow → Bool → List Bool → NumberedTuple → List NumberedTuple
ends [] is_root own t = t ∷ []
ends (row ∷ rows) is_root own t = flat_map (ends rows is_root own) (behind row is_root own t)

-- ON THE WAY, where the first event has this number
abbrev pub shown : ℕ → List EventRow → Bool → List Bool → NumberedTuple → List Firing
shown event [] is_root own t = []
shown event (row ∷ rows) is_root own t = firings event row is_root own t ++ flat_map (shown (event + 1) rows is_root own) (behind row is_root own t)
