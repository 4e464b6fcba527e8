-- WHICH OBJECTS ARE FOLLOWED in each function of a program, by lists: one for each function, by its number.
use Rattle.std.specs.Prelude.{Bool, false, List, slice_get}
use Rattle.c_objects.specs.Objects.{Object}
use Rattle.masked_paths.specs.Masked.{Mask}
use Rattle.path_model.specs.CheckerGraphs.Graphs.{number_of}
use Rattle.path_model.specs.CheckerModel.Checkers.{model}
use Rattle.path_model.specs.CheckerModel.Happenings.{Function}
use Rattle.path_model.specs.CheckerModel.Reports.{Checker}
use Rattle.path_model.specs.CheckerPrograms.Texts.{functions_in}
use Rattle.type_rules.specs.Options.{if_there, ◌>?◌}
use Rattle.typed_unit.specs.Texts.{Text}
use Rattle.block_flows.specs.TupleFlows.Facts.{is_in}

-- the object is one of the list of its function; in what is no function of the program none is followed
abbrev pub is_followed : List Text → List (List Object) → Function → Object → Bool
is_followed ts lists f o = if_there (number_of (functions_in ts) f >? slice_get lists) false (λ objects. is_in objects o)

-- THE MASK of lists, which is strict: nothing flows from an object that isn't followed
abbrev pub mask_in : (c : Checker) → List Text → List (List Object) → Mask (model c)
mask_in c ts lists = record { follows = is_followed ts lists; loose = false }
