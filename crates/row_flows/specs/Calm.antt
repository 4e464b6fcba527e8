-- EVENTS THAT LEAVE AN OBJECT CALM: a tuple of it that stands before them stands behind them, and no rule is taken by it.
use Rattle.std.specs.Prelude.{ℕ, nat_eq, Bool, true, false, not, ◌&&◌, ◌||◌, List}
use Rattle.std.specs.List.{list_all}
use Rattle.row_flows.specs.Choices.{leads_globally}
use Rattle.row_flows.specs.declared.rows.Applied.{Applied}
use Rattle.row_flows.specs.declared.rows.EventRow.{EventRow}
use Rattle.row_flows.specs.declared.rows.NumberedSource.{NumberedSource}
use Rattle.row_flows.specs.declared.rows.NumberedSource.TheVariants as source
use Rattle.row_flows.specs.declared.rows.Touched.{Touched}
use Rattle.row_flows.specs.declared.tuples.NumberedTuple.{NumberedTuple}

-- what is touched is another object, and has its state from another
abbrev pub spares : ℕ → Touched → Bool
spares n x = not (nat_eq x.object n) && not (nat_eq x.source n)

abbrev pub begins_in_object : NumberedSource → Bool
begins_in_object (source.Global q) = false
begins_in_object (source.Object q) = true

-- an alternative that neither the object, in whichever state, nor the global state may take. At the end of a function an object that is
-- known takes whichever begins in its state.
abbrev pub leaves : ℕ → Bool → Applied → Bool
leaves n is_exit a = not (leads_globally a.target) && (nat_eq n 0 || (not (nat_eq a.object n) && not (is_exit && begins_in_object a.source)))

abbrev pub is_calm : EventRow → ℕ → Bool
is_calm row n = list_all (spares n) row.touched.items && list_all (leaves n row.is_exit) row.applied.items

-- each of these tuples
abbrev pub are_calm : EventRow → List NumberedTuple → Bool
are_calm row ts = list_all (λ t. is_calm row t.object) ts
