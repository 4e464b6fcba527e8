-- WHICH OBJECTS HAVE A VARIABLE: as the base of their path, or as an index in it.
use Rattle.std.specs.Prelude.{◌≡◌, ℕ, ◌+◌, List, [], ◌∷◌, ◌++◌, Bool, true, cond, ◌||◌, Vec}
use Rattle.numbered_program.specs.declared.event_tables.object_index.ObjectIndex.{ObjectIndex}
use Rattle.numbered_program.specs.declared.event_tables.object_index.ObjectIndex.TheVariants as index
use Rattle.c_objects.specs.Objects.{Selector, Object, is_indexed_by, path, same_var}
use Rattle.indexmap.specs.IndexMap.{IndexMap}
use Rattle.least_set.specs.Indexes.{at}
use Rattle.objects.specs.Equality.{same_object}
use Rattle.type_rules.specs.Vars.{CVar}

abbrev pub stands_in : CVar → List Selector → CVar → Bool
stands_in base steps v = same_var base v || is_indexed_by steps v

abbrev pub has_variable : CVar → Object → Bool
has_variable v o = stands_in o.base o.selectors v

abbrev pub one_if : Bool → ℕ → List ℕ
one_if b n = cond b (n ∷ []) []

-- the numbers of those of which a test holds, where the first has this number
abbrev pub numbers_from : (Object → Bool) → ℕ → List Object → List ℕ
numbers_from test n [] = []
numbers_from test n (o ∷ objects) = one_if (test o) n ++ numbers_from test (n + 1) objects

-- THE NUMBERS OF THE OBJECTS THAT HAVE IT, in their order
abbrev pub numbers_with : CVar → List Object → List ℕ
numbers_with v objects = numbers_from (has_variable v) 1 objects

-- what a map has under a variable, which stands there as a path
abbrev pub numbers_at : {A S : Type 0} → IndexMap Object (Vec ℕ A) S → CVar → List ℕ
numbers_at numbers v = at same_object numbers (path v [])

-- each of them, where these are few
abbrev pub any : Object → Bool
any o = true

-- what an index has for a variable
abbrev pub numbers_for : ObjectIndex → CVar → List ℕ
numbers_for (index.All l) v = l.items
numbers_for (index.ByVariable m) v = numbers_at m v

-- of which objects it has the numbers there
abbrev pub asked_for : ObjectIndex → CVar → Object → Bool
asked_for (index.All l) v = any
asked_for (index.ByVariable m) v = has_variable v

-- THE INDEX of these objects: for each variable the numbers of those that have it, and perhaps of all
abbrev pub IsIndexOf : List Object → ObjectIndex → Type 0
IsIndexOf objects i = (v : CVar) → numbers_for i v ≡ numbers_from (asked_for i v) 1 objects
