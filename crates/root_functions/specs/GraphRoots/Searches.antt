-- How far a search for roots has come.
use Rattle.std.specs.Prelude.{◌≡◌, ◌⊎◌, ℕ, ◌<◌, List, [], ◌∷◌, ◌++◌, Bool, true, false, Contains, AllPairs}
use Rattle.root_functions.specs.declared.graph_roots.callees.Callees.{Callees}
use Rattle.path_model.specs.CheckerPrograms.Roots.{Reaches, IsUncalled, IsRootBelow}
use Rattle.root_functions.specs.GraphRoots.Graphs.{LeadsIn, AreWithin}
use Rattle.least_set.specs.Logs.{IsExactly, SomeGives}

-- one more behind these, unless it is known
abbrev pub unless : Bool → List ℕ → ℕ → List ℕ
unless true roots f = roots
unless false roots f = roots ++ (f ∷ [])

-- what these roots reach
pub record AreReached (rows : List Callees) (roots reached : List ℕ) : Type 0 where
  pub within : AreWithin rows roots
  pub exact : IsExactly reached (SomeGives (Reaches (LeadsIn rows)) roots)

-- the roots are the functions below n to which none leads
pub record HasUncalled (rows : List Callees) (n : ℕ) (roots : List ℕ) : Type 0 where
  pub exact : IsExactly roots (λ f. (f < n) × IsUncalled (LeadsIn rows) f)
  pub rise : AllPairs (λ f g. f < g) roots

-- the roots are those first ones and all others below n
pub record HasOthers (rows : List Callees) (n : ℕ) (uncalled roots : List ℕ) : Type 0 where
  pub others : List ℕ
  pub in_order : roots ≡ uncalled ++ others
  pub exact : IsExactly roots (λ f. Contains uncalled f ⊎ IsRootBelow (LeadsIn rows) n f)
  pub last : (f : ℕ) → Contains others f → IsUncalled (LeadsIn rows) f → ⊥
  pub rise : AllPairs (λ f g. f < g) others
  pub below : (f : ℕ) → Contains others f → f < n
