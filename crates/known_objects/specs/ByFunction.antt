-- WHAT WAS FOUND, BY FUNCTION: for each function a list of its objects, each once, from whatever is known at the entry.
use Rattle.std.specs.Prelude.{◌≡◌, ℕ, zero, suc, List, [], ◌∷◌, Option, Some, slice_get}
use Rattle.indexmap.specs.IndexSet.{insert_key}
use Rattle.c_objects.specs.Objects.{Object}
use Rattle.known_objects.specs.Linked.{IsIn}
use Rattle.known_search.specs.declared.members.Known.{Known}
use Rattle.least_set.specs.Logs.{IsExactly, IsOnce}
use Rattle.objects.specs.Equality.{same_object}

-- an object of the function with number n, put last in its list where there is one that doesn't have it
abbrev pub with_known : ℕ → Object → List (List Object) → List (List Object)
with_known n o [] = []
with_known zero o (os ∷ lists) = insert_key same_object os o ∷ lists
with_known (suc n) o (os ∷ lists) = os ∷ with_known n o lists

-- the list of each function has exactly what was found of it
abbrev pub AreSets : List (Known Object) → List (List Object) → Type 0
AreSets found lists = (n : ℕ) (os : List Object) → slice_get lists n ≡ Some os → IsExactly os (λ o. (w : Option Object) × IsIn found n w o)

-- and no list has an object twice
abbrev pub AreOnce : List (List Object) → Type 0
AreOnce lists = (n : ℕ) (os : List Object) → slice_get lists n ≡ Some os → IsOnce os
