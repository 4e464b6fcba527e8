-- The functions that a program defines, in source order: unit after unit, and in each in the order of the text.
use Rattle.std.specs.Prelude.{◌≡◌, ℕ, List, [], ◌∷◌, ◌++◌, map, Some, slice_get}
use Rattle.std.specs.Borrow.{Bor}
use Rattle.c_tree.specs.Node.{Nodes}
use Rattle.c_tree.specs.Views.{nodes_of}
use Rattle.type_rules.specs.Functions.{Defined, functions_of}
use Rattle.typed_unit.specs.declared.functions.TypedFunction.{TypedFunction}
use Rattle.typed_unit.specs.declared.typed_unit.TypedUnit.{TypedUnit}
use Rattle.typed_unit.specs.Functions.{function_of}

-- the trees of each unit
abbrev pub trees_in : List (Bor TypedUnit) → List Nodes
trees_in units = map (λ u. nodes_of u.now.unit.chunks) units

-- THE FUNCTIONS of a program
abbrev pub definitions : List Nodes → List Defined
definitions [] = []
definitions (unit ∷ units) = functions_of unit ++ definitions units

-- the unit at each position has that position as the number of its file
abbrev pub AreNumbered : List (Bor TypedUnit) → Type 0
AreNumbered units = (i : ℕ) (u : Bor TypedUnit) → slice_get units i ≡ Some u → u.now.unit.file ≡ i

-- the definitions of functions that the program keeps
abbrev pub defined_by : List (Bor TypedFunction) → List Defined
defined_by functions = map (λ f. function_of f.now) functions

-- those that units keep
abbrev pub kept_in : List (Bor TypedUnit) → List Defined
kept_in [] = []
kept_in (u ∷ us) = map function_of u.now.functions.items ++ kept_in us
