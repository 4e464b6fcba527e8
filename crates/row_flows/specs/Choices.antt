-- WHICH ALTERNATIVE IS TAKEN AT AN EVENT, by number: by the object of a tuple that stands behind the event's move, or by the global state where it
-- has none.
use Rattle.std.specs.Prelude.{ℕ, nat_eq, Bool, true, false, cond, not, ◌&&◌, ◌||◌, List, Option, None, option_and_then, position, slice_get}
use Rattle.std.specs.Option.{option_map_or}
use Rattle.row_flows.specs.Numbers.{is_own}
use Rattle.row_flows.specs.declared.rows.Applied.{Applied}
use Rattle.row_flows.specs.declared.rows.EventRow.{EventRow}
use Rattle.row_flows.specs.declared.rows.NumberedSource.{NumberedSource}
use Rattle.row_flows.specs.declared.rows.NumberedSource.TheVariants as source
use Rattle.row_flows.specs.declared.rows.NumberedTarget.{NumberedTarget}
use Rattle.row_flows.specs.declared.rows.NumberedTarget.TheVariants as target
use Rattle.row_flows.specs.declared.tuples.NumberedTuple.{NumberedTuple}

-- the global state alone
abbrev pub bare : ℕ → NumberedTuple
bare g = record { global = g; state = 0; object = 0 }

abbrev pub begins_globally : ℕ → NumberedSource → Bool
begins_globally g (source.Global q) = nat_eq q g
begins_globally g (source.Object q) = false

abbrev pub begins_known : ℕ → NumberedSource → Bool
begins_known x (source.Global q) = false
begins_known x (source.Object q) = nat_eq q x

abbrev pub leads_globally : NumberedTarget → Bool
leads_globally (target.Global q) = true
leads_globally (target.Object q) = false

-- THE GLOBAL STATE TAKES IT: it leads from it to a global state
abbrev pub global_takes : ℕ → Applied → Bool
global_takes g a = begins_globally g a.source && leads_globally a.target

-- AN UNKNOWN OBJECT TAKES IT: it leads from the global state to a state of the object that it binds
abbrev pub unknown_takes : ℕ → ℕ → Applied → Bool
unknown_takes g n a = begins_globally g a.source && (not (leads_globally a.target) && nat_eq a.object n)

-- A KNOWN OBJECT TAKES IT: it leads from its state and binds it; at an exit any that leads from its state
abbrev pub known_takes : Bool → ℕ → ℕ → Applied → Bool
known_takes is_exit x n a = begins_known x a.source && (is_exit || nat_eq a.object n)

abbrev pub takes : Bool → NumberedTuple → Applied → Bool
takes is_exit t a = cond (nat_eq t.object 0) (global_takes t.global a) (cond (nat_eq t.state 0) (unknown_takes t.global t.object a) (known_takes is_exit t.state t.object a))

-- At the end of a called function neither the global state is asked, nor objects but its own.
abbrev pub is_asked : EventRow → Bool → List Bool → ℕ → Bool
is_asked row is_root own n = not row.is_exit || (is_root || is_own own n)

-- THE PLACE OF THE ALTERNATIVE that is taken, among those that apply: the first. In `stop`, the global state of the number 1, none is taken.
abbrev pub taken_place : EventRow → Bool → List Bool → NumberedTuple → Option ℕ
taken_place row is_root own t = cond (nat_eq t.global 1 || not (is_asked row is_root own t.object)) None (position (takes row.is_exit t) row.applied.items)

abbrev pub taken : EventRow → Bool → List Bool → NumberedTuple → Option Applied
taken row is_root own t = option_and_then (slice_get row.applied.items) (taken_place row is_root own t)

abbrev pub global_behind : NumberedTarget → ℕ → ℕ
global_behind (target.Global q) g = q
global_behind (target.Object q) g = g

abbrev pub state_behind : NumberedTarget → ℕ → ℕ
state_behind (target.Global q) x = x
state_behind (target.Object q) x = q

-- THE GLOBAL STATE BEHIND THE EVENT
abbrev pub next_global : EventRow → Bool → List Bool → ℕ → ℕ
next_global row is_root own g = option_map_or (λ a. global_behind a.target g) (taken row is_root own (bare g)) g

-- THE STATE BEHIND THE EVENT of a tuple's object
abbrev pub next_state : EventRow → Bool → List Bool → NumberedTuple → ℕ
next_state row is_root own t = option_map_or (λ a. state_behind a.target t.state) (taken row is_root own t) t.state
