-- GRAPHS OF FUNCTIONS: a list of rows, each with the functions to which that of its position leads. Which of them are roots is said by
-- `IsRoot (LeadsIn rows)` of `path_model`.
use Rattle.std.specs.Prelude.{◌≡◌, ◌⊎◌, ℕ, ◌<◌, List, Contains, Some, length, slice_get}
use Rattle.path_model.specs.CheckerPrograms.Roots.{Reaches}
use Rattle.root_functions.specs.declared.graph_roots.callees.Callees.{Callees}
use Rattle.least_set.specs.Logs.{IsExactly, SomeGives}

-- The function at this position leads to the other.
abbrev pub LeadsIn : List Callees → ℕ → ℕ → Type 0
LeadsIn rows f g = (row : Callees) × (slice_get rows f ≡ Some row) × Contains row.numbers.items g

-- one of them leads to it
abbrev pub Entered : List Callees → ℕ → Type 0
Entered rows g = SomeGives {T = Callees} {M = ℕ} (λ row f. Contains row.numbers.items f) rows g

-- all that they lead to are among them
abbrev pub StaysWithin : List Callees → Type 0
StaysWithin rows = (f g : ℕ) → LeadsIn rows f g → g < length rows

-- these are among them
abbrev pub AreWithin : List Callees → List ℕ → Type 0
AreWithin rows known = (f : ℕ) → Contains known f → f < length rows

-- these lead to nothing else
abbrev pub AreClosed : List Callees → List ℕ → Type 0
AreClosed rows known = (f g : ℕ) → Contains known f → LeadsIn rows f g → Contains known g

-- the new ones are the old ones, and what the root reaches
abbrev pub IsVisited : List Callees → List ℕ → ℕ → List ℕ → Type 0
IsVisited rows old root new = IsExactly new (λ f. Contains old f ⊎ Reaches (LeadsIn rows) root f)
