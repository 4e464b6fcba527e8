-- WHAT PASSES AT A CALL, by number: the objects that are followed in the caller, here, and in the callee, there, have numbers from 1 on.
use Rattle.std.specs.Prelude.{ℕ, Bool, is_none, List, map, Option}
use Rattle.std.specs.List.{enumerate_from, filter_map}
use Rattle.std.specs.Option.{option_map}
use Rattle.block_flows.specs.TupleFlows.Passed.{into_in, out_in}
use Rattle.c_objects.specs.Objects.{Object}
use Rattle.numbered_program.specs.NumberedTuples.FollowedObjects.{number_of, row_of}
use Rattle.path_model.specs.CheckerModel.Happenings.{Site}
use Rattle.row_flows.specs.declared.rows.Touched.{Touched}
use Rattle.type_rules.specs.Options.{if_there}

-- the number of the caller's object whose state one of the callee begins with; 0 where it begins unknown
abbrev pub source_number : ℕ → Site → List Object → List Object → Object → ℕ
source_number depth s here there o = if_there (into_in depth s here there o) 0 (number_of here)

abbrev pub entered_row : ℕ → Site → List Object → List Object → ℕ × Object → Touched
entered_row depth s here there x = row_of x.0 (source_number depth s here there x.1)

-- WITH WHAT THE CALLEE IS ENTERED: a row for each object that is followed there
abbrev pub entered_rows : ℕ → Site → List Object → List Object → List Touched
entered_rows depth s here there = map (entered_row depth s here there) (enumerate_from 1 there)

-- the number of the callee's object whose state one of the caller has behind the call, if there is one
abbrev pub handing_number : ℕ → Site → List Object → List Object → Object → Option ℕ
handing_number depth s here there o = option_map (number_of there) (out_in depth s here there o)

abbrev pub handed_row : ℕ → Site → List Object → List Object → ℕ × Object → Option Touched
handed_row depth s here there x = option_map (row_of x.0) (handing_number depth s here there x.1)

-- WHAT IS HANDED BACK: a row for each object that is followed in the caller and isn't saved
abbrev pub handed_rows : ℕ → Site → List Object → List Object → List Touched
handed_rows depth s here there = filter_map (handed_row depth s here there) (enumerate_from 1 here)

-- an object that has its state behind the call from none of the callee's is saved
abbrev pub is_saved : ℕ → Site → List Object → List Object → Object → Bool
is_saved depth s here there o = is_none (out_in depth s here there o)

-- WHAT IS SAVED: whether each object that is followed in the caller is
abbrev pub saved_flags : ℕ → Site → List Object → List Object → List Bool
saved_flags depth s here there = map (is_saved depth s here there) here
