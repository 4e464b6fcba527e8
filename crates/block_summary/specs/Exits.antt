-- WHAT A BLOCK LEADS TO, as it is kept: relative to the tuple at its head.
use Rattle.std.specs.Prelude.{Bool, cond, List, [], ◌∷◌, ◌++◌, Contains}
use Rattle.least_set.specs.Logs.{IsExactly, IsOnce}
use Rattle.row_flows.specs.Crossing.{ends, shown}
use Rattle.row_flows.specs.declared.rows.EventRow.{EventRow}
use Rattle.row_flows.specs.declared.tuples.NumberedTuple.{NumberedTuple}
use Rattle.block_summary.specs.declared.exits.Exits.{Exits}

-- the tuples at the end of the block, where this one stands at its head
abbrev pub tuples_of : Exits → NumberedTuple → List NumberedTuple
tuples_of e t = cond e.is_unchanged (t ∷ []) [] ++ e.tuples.items

-- THESE ARE THE EXITS of a tuple over events of these rows: exactly the tuples at their end, each once, and exactly what is noted on the way
pub record AreExits (rows : List EventRow) (is_root : Bool) (own : List Bool) (t : NumberedTuple) (e : Exits) : Type 0 where
  pub tuples : IsExactly (tuples_of e t) (Contains (ends rows is_root own t))
  pub once : IsOnce (tuples_of e t)
  pub firings : IsExactly e.firings.items (Contains (shown 0 rows is_root own t))
