-- OBJECTS BY FUNCTION: lists of which each has the objects of one function, whose number is its position.
use Rattle.std.specs.Prelude.{◌≡◌, ℕ, zero, suc, List, [], ◌∷◌, ◌++◌, Contains, Some, slice_get}
use Rattle.c_objects.specs.Objects.{Object}
use Rattle.least_set.specs.Logs.{IsExactly}
use Rattle.path_model.specs.CheckerGraphs.Members.{Member}

-- an object of the function with number n put last in its list, if there is one
abbrev pub with_member : ℕ → Object → List (List Object) → List (List Object)
with_member n o [] = []
with_member zero o (os ∷ lists) = (os ++ (o ∷ [])) ∷ lists
with_member (suc n) o (os ∷ lists) = os ∷ with_member n o lists

-- THE LISTS have the objects of these members by function
abbrev pub AreFiled : List Member → List (List Object) → Type 0
AreFiled members lists = (n : ℕ) (os : List Object) → slice_get lists n ≡ Some os → IsExactly os (λ o. Contains members (n, o))
