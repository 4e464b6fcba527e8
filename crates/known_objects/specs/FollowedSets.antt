-- WHAT AN ENGINE FOLLOWS, as sets: one for each function, by its number.
use Rattle.std.specs.Prelude.{◌≡◌, ℕ, List, [], length, slice_get, Some}
use Rattle.block_flows.specs.TupleFlows.Moved.{AreObjects}
use Rattle.c_objects.specs.Objects.{Object}
use Rattle.flow_graph.specs.CPaths.Building.{Graph}
use Rattle.block_flows.specs.Masks.{AreEnough}
use Rattle.path_model.specs.CheckerModel.Reports.{Checker}
use Rattle.path_model.specs.CheckerPrograms.Texts.{functions_in}
use Rattle.typed_unit.specs.Texts.{Text}

-- THE SETS may be followed alone: there is one for each function, what they have are objects at the checker's depth, and it is enough to
-- follow these
pub record AreFollowable (c : Checker) (ts : List Text) (gs : List Graph) (sets : List (List Object)) : Type 0 where
  pub count : length sets ≡ length (functions_in ts)
  pub enough : AreEnough c ts gs sets
  pub plain : (n : ℕ) (os : List Object) → slice_get sets n ≡ Some os → AreObjects c.depth os

-- none of them has an object
abbrev pub HaveNone : List (List Object) → Type 0
HaveNone sets = (n : ℕ) (os : List Object) → slice_get sets n ≡ Some os → os ≡ []
