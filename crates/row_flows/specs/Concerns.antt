-- WHICH OBJECTS THE EVENTS OF A BLOCK CONCERN: all others they leave calm, unless they stir.
use Rattle.std.specs.Prelude.{ℕ, nat_eq, Bool, ◌&&◌, ◌||◌, cond, List, [], ◌∷◌, ◌++◌, flat_map}
use Rattle.std.specs.List.{list_all, list_any}
use Rattle.row_flows.specs.Calm.{begins_in_object, is_calm}
use Rattle.row_flows.specs.Choices.{leads_globally}
use Rattle.row_flows.specs.declared.rows.Applied.{Applied}
use Rattle.row_flows.specs.declared.rows.EventRow.{EventRow}
use Rattle.row_flows.specs.declared.rows.Touched.{Touched}

-- what is touched, and from which it has its state
abbrev pub moved_numbers : Touched → List ℕ
moved_numbers x = x.object ∷ x.source ∷ []

-- what an alternative has bound, if that is followed
abbrev pub bound_numbers : Applied → List ℕ
bound_numbers a = cond (nat_eq a.object 0) [] (a.object ∷ [])

-- AN EVENT CONCERNS those that its move touches, those from which these have their states, and those that alternatives have bound
abbrev pub concerned_by : EventRow → List ℕ
concerned_by row = flat_map moved_numbers row.touched.items ++ flat_map bound_numbers row.applied.items

-- AN ALTERNATIVE STIRS where others than the object that it has bound may take it: the global state, and at the end of a function any object
-- that is known
abbrev pub stirs : Bool → Applied → Bool
stirs is_exit a = leads_globally a.target || (is_exit && begins_in_object a.source)

abbrev pub row_stirs : EventRow → Bool
row_stirs row = list_any (stirs row.is_exit) row.applied.items

-- the object with a number is left calm by each of these events
abbrev pub all_calm : ℕ → List EventRow → Bool
all_calm n rows = list_all (λ row. is_calm row n) rows
