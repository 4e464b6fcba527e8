-- WHAT A MOVE DOES TO THE OBJECTS THAT ARE FOLLOWED, by number. An object that keeps its state isn't touched.
use Rattle.std.specs.Prelude.{ℕ, Bool, false, cond, List, Option, None, Some}
use Rattle.std.specs.List.{enumerate_from, filter_map}
use Rattle.block_flows.specs.TupleFlows.Moved.{source_in}
use Rattle.c_objects.specs.Objects.{Object}
use Rattle.numbered_program.specs.NumberedTuples.FollowedObjects.{number_of, row_of}
use Rattle.objects.specs.Equality.{same_object}
use Rattle.path_model.specs.CheckerModel.Moves.{Move}
use Rattle.row_flows.specs.Numbers.{item_numbered}
use Rattle.row_flows.specs.declared.rows.Touched.{Touched}
use Rattle.type_rules.specs.Options.{if_there, ◌>?◌}

-- the number of a source, 0 of none
abbrev pub source_number : List Object → Option Object → ℕ
source_number followed z = if_there z 0 (number_of followed)

-- the object has its own state
abbrev pub is_kept : Object → Option Object → Bool
is_kept o z = if_there z false (λ s. same_object s o)

-- the row of the object with this number whose source is this
abbrev pub touched_from : List Object → ℕ → Object → Option Object → Option Touched
touched_from followed n o z = cond (is_kept o z) None (Some (row_of n (source_number followed z)))

-- WHAT A MOVE DOES TO A FOLLOWED OBJECT, if it touches it: the object's number, and that of the followed one from which it has its state
abbrev pub touched_at : ℕ → Option Move → List Object → ℕ × Object → Option Touched
touched_at depth m followed x = touched_from followed x.0 x.1 (source_in depth m followed x.1)

-- THE ROWS of a move, in the order of the objects' numbers
abbrev pub touched_rows : ℕ → Option Move → List Object → List Touched
touched_rows depth m followed = filter_map (touched_at depth m followed) (enumerate_from 1 followed)

-- the row of the object with a number, if there is one
abbrev pub touched_with : ℕ → Option Move → List Object → ℕ → Option Touched
touched_with depth m followed n = item_numbered followed n >? λ o. touched_at depth m followed (n, o)
