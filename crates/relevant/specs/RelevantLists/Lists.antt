-- A FAMILY OF OBJECTS BY FUNCTION, as lists.
use Rattle.std.specs.Prelude.{◌≡◌, ℕ, List, length, Contains, Some, slice_get}
use Rattle.c_objects.specs.Objects.{Object, IsObject}
use Rattle.type_rules.specs.Functions.{Defined}
use Rattle.path_model.specs.CheckerModel.Happenings.{Function}
use Rattle.path_model.specs.CheckerModel.Reports.{Checker}
use Rattle.path_model.specs.CheckerPrograms.Texts.{functions_in, function_of}
use Rattle.typed_unit.specs.Texts.{Text}
use Rattle.least_set.specs.Logs.{IsExactly}

-- THE LISTS of a program under a checker: for each function one, by its number, with exactly the objects that the family has there; and each
-- of them is an object at the checker's depth
pub record AreLists (c : Checker) (ts : List Text) (Family : Function → Object → Type 0) (lists : List (List Object)) : Type 0 where
  pub count : length lists ≡ length (functions_in ts)
  pub followed : (n : ℕ) (d : Defined) (os : List Object) → slice_get (functions_in ts) n ≡ Some d → slice_get lists n ≡ Some os
      → IsExactly os (Family (function_of d))
  pub plain : (n : ℕ) (os : List Object) → slice_get lists n ≡ Some os → (o : Object) → Contains os o → IsObject c.depth o
