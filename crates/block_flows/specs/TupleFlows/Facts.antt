-- Tuples as facts: no object, or one object with its state, or with none where that is unknown. Which objects are followed, and from which of
-- these they have their states.
use Rattle.std.specs.Prelude.{Bool, Option, None, Some, List}
use Rattle.std.proofs.Common.{refl}
use Rattle.std.specs.List.{list_any}
use Rattle.c_objects.specs.Objects.{Object}
use Rattle.masked_paths.specs.StrictFlows.Among.{origins_among, tested}
use Rattle.objects.specs.Equality.{same_object}
use Rattle.path_model.specs.CheckerModel.Checkers.{model, origins}
use Rattle.path_model.specs.CheckerModel.Choices.{State}
use Rattle.path_model.specs.CheckerModel.Reports.{Checker}
use Rattle.path_theory.specs.Facts.{FactOf, NoObject, HasObject, Objects}
use Rattle.path_theory.specs.Origins.{Origins}
use Rattle.state_tuples.specs.declared.tuple.Tuple.{Tuple}

abbrev pub fact_of : Option Object → Option State → FactOf Object State
fact_of None x = NoObject
fact_of (Some o) x = HasObject o x

-- THE FACT of a tuple, which stands beside its global state
abbrev pub fact_in : Tuple → FactOf Object State
fact_in t = fact_of t.object t.state

-- whether an object is one of a list
abbrev pub is_in : List Object → Object → Bool
is_in objects o = list_any (same_object o) objects

-- THE OBJECTS that are followed are those of a list, in whichever function
abbrev pub listed : (c : Checker) → List Object → Objects (model c)
listed c objects = tested (model c) (is_in objects)

-- FROM WHICH OBJECTS states come, among those that are followed in a function, here, and in one that it calls, there: an object that is
-- followed begins where it has its state from none, or from one that isn't followed
abbrev pub origins_in : (c : Checker) → List Object → List Object → Origins (model c)
origins_in c here there = origins_among (model c) (origins c) (is_in here) (is_in there)

-- this object in the states of a tuple: unknown where that has no object
abbrev pub with_object : Tuple → Object → Tuple
with_object t o = record { global = t.global; object = Some o; state = t.state; bare = refl }

-- and the tuple without an object
abbrev pub without_object : Tuple → Tuple
without_object t = record { global = t.global; object = None; state = None; bare = refl }
