-- WHAT A TUPLE BECOMES OVER AN EVENT, by its row: first under its move, then by the alternatives that are taken.
use Rattle.std.specs.Prelude.{ℕ, nat_eq, Bool, cond, List, [], ◌∷◌, ◌++◌, flat_map, map, slice_get}
use Rattle.std.specs.List.{list_any}
use Rattle.std.specs.Option.{option_map_or}
use Rattle.row_flows.specs.Choices.{next_global, next_state, taken_place}
use Rattle.row_flows.specs.declared.behind.Firing.{Firing}
use Rattle.row_flows.specs.declared.rows.Applied.{Applied}
use Rattle.row_flows.specs.declared.rows.EventRow.{EventRow}
use Rattle.row_flows.specs.declared.rows.Touched.{Touched}
use Rattle.row_flows.specs.declared.tuples.NumberedTuple.{NumberedTuple}

abbrev pub touches : ℕ → Touched → Bool
touches n x = nat_eq x.object n

-- this object in the states of a tuple
abbrev pub with_object : NumberedTuple → ℕ → NumberedTuple
with_object t n = record { global = t.global; state = t.state; object = n }

-- the tuple of a touched object, if it has its state from this tuple's object
abbrev pub given : NumberedTuple → Touched → List NumberedTuple
given t x = cond (nat_eq x.source t.object) (with_object t x.object ∷ []) []

abbrev pub if_kept : NumberedTuple → Bool → List NumberedTuple
if_kept t is_touched = cond is_touched [] (t ∷ [])

-- BEHIND THE MOVE: the tuple itself where its object isn't touched, and the touched ones that have their state from it
abbrev pub moved : EventRow → NumberedTuple → List NumberedTuple
moved row t = if_kept t (list_any (touches t.object) row.touched.items) ++ flat_map (given t) row.touched.items

-- BEHIND THE CHOICE, in this global state
abbrev pub chosen : EventRow → Bool → List Bool → ℕ → NumberedTuple → NumberedTuple
chosen row is_root own next t = record { global = next; state = next_state row is_root own t; object = t.object }

-- BEHIND THE EVENT
abbrev pub behind : EventRow → Bool → List Bool → NumberedTuple → List NumberedTuple
behind row is_root own t = map (chosen row is_root own (next_global row is_root own t.global)) (moved row t)

-- WHAT IS NOTED of an alternative that is taken, if its rule has an action
abbrev pub noted : ℕ → ℕ → ℕ → Applied → List Firing
noted event object place a = cond a.has_action (record { event = event; object = object; place = place } ∷ []) []

-- of the one at a place, if there is one
abbrev pub noted_at : ℕ → ℕ → List Applied → ℕ → List Firing
noted_at event object applied place = option_map_or (noted event object place) (slice_get applied place) []

-- by a tuple behind the move, at the event with this number
abbrev pub fired : ℕ → EventRow → Bool → List Bool → NumberedTuple → List Firing
fired event row is_root own t = option_map_or (noted_at event t.object row.applied.items) (taken_place row is_root own t) []

-- THE FIRINGS at an event of a tuple that stands before it
abbrev pub firings : ℕ → EventRow → Bool → List Bool → NumberedTuple → List Firing
firings event row is_root own t = flat_map (fired event row is_root own) (moved row t)
